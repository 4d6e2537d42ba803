-- What is left gets shorter with each case.
use Rattle.std.proofs.Common.{length}
use Rattle.cases.proofs.each.Given as goal

abbrev pub decreases-loop-left : goal.decreases-loop-left
decreases-loop-left g l = length l.left
