use mathlib.Core.Path.{ap, ◌∙◌}
use mathlib.Core.List.{List, [], ◌∷◌}
use Prim.Native.Nat.{ℕ, ◌+◌, ◌*◌, ◌/◌}
use native.Mathlib.Omega.{arith}
use lib.Seq.{sets}
use Rattle.words.proofs.Filling.{filled_more, filled-all}
use Rattle.words.proofs.Items.{each-each, length-ones}
use Rattle.tile.specs.Layout.{element}
use Rattle.tile.specs.Packings.{sprite}
use Rattle.tile.proofs.Filling.{spread-is}
use Rattle.tile.proofs.Packings.{Sized, sized_of}
use Rattle.tile.proofs.Packed.{sprite-cell}
use Rattle.tile.proofs.sprites.put_sprite.Goals as goal
use Rattle.tile.proofs.sprites.put_sprite.Goals.{In-loop-c, Start}

size : (s : Start) → Sized s.args.width s.args.height
size s = sized_of s.args.width s.args.height s.requires.sound

pub loop-c-preserved : goal.loop-c-preserved
loop-c-preserved c =
    let a = c.args in
    let l = c.loop-c in
    let byte = element (sprite a.width a.height).bytes a.tile.now in
    let is = sprite-cell a.width a.height l.c 128 a.tile.now (omega arith) in
    let stored = c.put_cell.ensures ∙ ap (λ (x : List ℕ). sets l.out (a.at + l.c * 128) x) is in
    filled_more 128 (λ i. length-ones 128 (λ k. byte (i * 128 + k))) l.invariant stored

pub returns : goal.returns
returns c =
    let a = c.args in
    let side = (sprite a.width a.height).bytes in
    let n = a.width / 16 * (a.height / 16) in
    filled-all n c.loop-c.invariant (omega arith)
    ∙ ap (λ (l : List ℕ). sets a.out.now a.at l)
    (each-each n 128 (λ k. element side a.tile.now k ∷ []) ∙ spread-is side a.tile.now (n * 128) (size (goal.at.returns c).Start).cells)
