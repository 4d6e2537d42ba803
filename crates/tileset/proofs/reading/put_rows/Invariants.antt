-- The rows before y are put.
use Rattle.words.proofs.Filling.{Filled}
use Rattle.tileset.specs.Inner.{row_of}
use Rattle.tileset.proofs.reading.put_rows.Given as goal

abbrev pub invariant-loop-y : goal.invariant-loop-y
invariant-loop-y l = Filled (row_of l.width l.cells) l.initial.out l.at l.y l.out
