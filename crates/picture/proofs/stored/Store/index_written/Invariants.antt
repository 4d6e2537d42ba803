-- The tiles before k are in the index.
use Rattle.picture.specs.Inner.{Indexes}
use Rattle.picture.proofs.stored.Store.index_written.Given as goal

abbrev pub invariant-loop-k : goal.invariant-loop-k
invariant-loop-k l = Indexes l.source l.initial.self l.k l.self
