-- No colour passed is above the top.
use mathlib.Core.Path.{◌≡◌}
use mathlib.Core.Bool.{false}
use Rattle.words.specs.Loops.{some}
use Rattle.color.specs.Color.{above}
use Rattle.color.proofs.some_above.Given as goal

abbrev pub invariant-loop-i : goal.invariant-loop-i
invariant-loop-i l = some l.i (above l.top l.colors) ≡ false
