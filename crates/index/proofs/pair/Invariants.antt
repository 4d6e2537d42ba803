-- Two hashes side by side, row by row.
use Rattle.index.proofs.Keys.{Hashing}
use Rattle.index.proofs.pair.Given as goal

abbrev pub invariant-loop-y : goal.invariant-loop-y
invariant-loop-y l = Hashing l.tile l.v l.y l.a l.b
