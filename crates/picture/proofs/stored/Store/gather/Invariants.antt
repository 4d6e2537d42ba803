-- The tiles up to tile i are gathered.
use Rattle.picture.proofs.Storing.{Gathering}
use Rattle.picture.proofs.stored.Store.gather.Given as goal

abbrev pub invariant-loop-i : goal.invariant-loop-i
invariant-loop-i l = Gathering l.source l.initial.self.held l.room l.self l.codes l.i
