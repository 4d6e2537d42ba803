use mathlib.Core.Path.{refl, ◌∙◌}
use native.Mathlib.Omega.{arith}
use Rattle.words.proofs.Filling.{filled-whole, filled_next}
use Rattle.picture.proofs.Taking.{row-length, rows_are}
use Rattle.picture.proofs.take_tile.Goals as goal

pub loop-y-preserved : goal.loop-y-preserved
loop-y-preserved c =
    let a = c.args in
    filled_next 8 (row-length a.depth a.columns a.pixels.now a.i) c.loop-y.invariant c.cut_eight.ensures

pub returns : goal.returns
returns c =
    let a = c.args in
    filled-whole 8 8 (row-length a.depth a.columns a.pixels.now a.i) c.loop-y.invariant (omega arith) refl ∙ rows_are a.depth a.columns a.pixels.now a.i
