-- Each turn stores a word of the cell.
use Prim.Native.Nat.{}
use Rattle.words.proofs.Filling.{Filled}
use Rattle.tile.specs.Inner.{cell_byte}
use Rattle.tile.proofs.Filling.{run}
use Rattle.tile.proofs.sprites.put_cell.Given as goal

abbrev pub invariant-loop-b : goal.invariant-loop-b
invariant-loop-b l = Filled (run (cell_byte l.tile l.from l.width)) l.initial.out l.at l.b l.out
