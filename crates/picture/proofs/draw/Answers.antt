use mathlib.Core.Path.{◌≡◌, ap, ◌∙◌}
use mathlib.Core.List.{List}
use Prim.Native.Nat.{ℕ, ◌*◌}
use native.Mathlib.Nat.{mul_comm}
use native.Mathlib.Omega.{arith}
use lib.ListN.{length}
use lib.Seq.{sets, length-sets}
use Rattle.words.specs.Answers.{overwrite}
use Rattle.words.proofs.Filling.{filled-front, filled_next}
use Rattle.picture.specs.Inner.{strip_of}
use Rattle.picture.proofs.Drawing.{row-length, lines_are, rows_are}
use Rattle.picture.proofs.draw.Goals as goal
use Rattle.picture.proofs.draw.Goals.{After-draw_strip, In-loop-y, Start}

still : (c : After-draw_strip) → length c.draw_strip.new.out ≡ 4096
still c =
    let a = c.args in
    let lp = c.loop-y in
    ap length c.draw_strip.ensures ∙ length-sets lp.strip 0 (strip_of a.m a.depth a.columns (lp.y * a.columns) a.tiles.now a.map.now) ∙ lp.invariant.1

pub loop-y-preserved : goal.loop-y-preserved
loop-y-preserved c =
    let a = c.args in
    let lp = c.loop-y in
    let k = 8 * (a.columns * 8) in
    let lines = lines_are a.m a.depth a.columns a.tiles.now a.map.now
    lp.strip (c.draw_strip.new.out) lp.y (omega (arith, lp.invariant.1, c.requires.narrow)) c.draw_strip.ensures in (
      filled_next k (row-length a.m a.depth a.columns a.tiles.now a.map.now) lp.invariant.0
          (c.put_lines.ensures ∙ ap (λ (l : List ℕ). sets lp.out (lp.y * k) l) lines),
      still (goal.at.loop-y-preserved c).After-draw_strip,
    )

pub returns : goal.returns
returns c =
    let a = c.args in
    filled-front (8 * (a.columns * 8)) a.rows (row-length a.m a.depth a.columns a.tiles.now a.map.now) c.loop-y.invariant.0 (omega arith)
    (omega (arith, c.requires.space, mul_comm a.columns a.rows))
    ∙ ap (λ (l : List ℕ). overwrite a.out.now l) (rows_are a.m a.depth a.columns a.tiles.now a.map.now a.rows)
