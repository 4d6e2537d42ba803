-- The rows before y are taken.
use Rattle.words.proofs.Filling.{Filled}
use Rattle.picture.proofs.Taking.{row_at}
use Rattle.picture.proofs.take_tile.Given as goal

abbrev pub invariant-loop-y : goal.invariant-loop-y
invariant-loop-y l = Filled (row_at l.depth l.columns l.pixels l.i) l.initial.tile 0 l.y l.tile
