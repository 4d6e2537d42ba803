-- The rows before y are put.
use Rattle.words.proofs.Filling.{Filled}
use Rattle.flip.proofs.Group.{flipped_row}
use Rattle.picture.proofs.put_flipped.Given as goal

abbrev pub invariant-loop-y : goal.invariant-loop-y
invariant-loop-y l = Filled (flipped_row l.f 8 8 l.tile) l.initial.out l.at l.y l.out
