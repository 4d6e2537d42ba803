-- The digits before b gave n, and the rest is read after them.
use Rattle.std.proofs.Common.{◌≡◌, drop}
use Rattle.sheet.specs.Numbers.{digits_from}
use Rattle.sheet.proofs.digits.Given as goal

abbrev pub invariant-loop-b : goal.invariant-loop-b
invariant-loop-b l = digits_from l.s 0 ≡ digits_from (drop l.b-index l.s) l.n
