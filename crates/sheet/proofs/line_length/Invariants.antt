-- No newline stands before i.
use Rattle.std.proofs.Common.{◌≡◌, ◌+◌, drop}
use Rattle.sheet.specs.Sheet.{line_length}
use Rattle.sheet.proofs.line_length.Given as goal

abbrev pub invariant-loop-i : goal.invariant-loop-i
invariant-loop-i l = line_length l.s ≡ l.i + line_length (drop l.i l.s)
