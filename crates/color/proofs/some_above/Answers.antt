use mathlib.Core.Path.{sym, ◌∙◌}
use Prim.Native.Nat.{◌/◌}
use lib.ListN.{length}
use Rattle.words.proofs.Loops.{some-true}
use Rattle.color.specs.Color.{above}
use Rattle.color.proofs.some_above.Goals as goal

pub returns-then-is_above : goal.returns-then-is_above
returns-then-is_above c =
    let a = c.args in
    sym (some-true (length a.colors.now / 4) (above a.top a.colors.now) c.loop-i.i c.loop-i-test.true (sym c.is_above.ensures ∙ c.if-is_above.true))
