use mathlib.Core.Path.{◌≡◌, sym, ap, ◌∙◌, subst}
use mathlib.Core.List.{List}
use Prim.Native.Nat.{ℕ, ◌+◌, ◌*◌, ◌/◌, ◌≤◌, ◌<◌}
use native.Mathlib.Omega.{arith}
use lib.ListN.{length}
use lib.Seq.{sets}
use Rattle.tile.specs.Packings.{sprite}
use Rattle.tile.proofs.Filling.{spread-is}
use Rattle.tile.proofs.Scattered.{scattered-then, scattered-all}
use Rattle.tile.proofs.CellRows.{sprite_turn, in_words, turn-soon, cell-turns}
use Rattle.tile.proofs.sprites.put_sprite_rows.Goals as goal
use Rattle.tile.proofs.sprites.put_sprite_rows.Goals.{In-loop-c, Start}

space : (s : Start) → s.args.at + s.args.width * s.args.height / 8 * 8 ≤ length s.args.out.now
space s = omega (arith, s.requires.space)

pub loop-c-preserved : goal.loop-c-preserved
loop-c-preserved c =
    let a = c.args in
    let known = c.shared_slice_known-1 in
    let turns = cell-turns (c.args.width) (c.args.height) c.requires.sound (c.loop-c.c) a.at (c.args.bytes.now) c.cell_pixels-ws.result c.loop-c-test.true (λ i. (known.given i).fits) c.cell_pixels-ws.ensures in
    scattered-then (space (goal.at.loop-c-preserved c).Start) 32 c.loop-c.invariant turns (omega arith) c.put_cell_rows.ensures

pub returns : goal.returns
returns c =
    let a = c.args in
    let all : c.loop-c.c ≡ c.args.width / 16 * (c.args.height / 16) = omega arith in
    let side = (sprite (c.args.width) (c.args.height)).pixels in
    scattered-all (space (goal.at.returns c).Start) c.loop-c.invariant
    (λ i li. subst (λ (n : ℕ). sprite_turn (c.args.width) (c.args.height) i < n * 32) (sym all) (turn-soon (c.args.width) (c.args.height) c.requires.sound i li))
    ∙ ap (λ (l : List ℕ). sets a.out.now a.at l) (spread-is side (c.args.bytes.now) (c.args.width * c.args.height / 8 * 8) (in_words (c.args.width) (c.args.height) c.requires.sound))
