-- The cells before c are put.
use Rattle.words.proofs.Filling.{Filled}
use Rattle.tileset.specs.Writing.{cell_bytes}
use Rattle.tileset.proofs.writing.put_cells.Given as goal

abbrev pub invariant-loop-c : goal.invariant-loop-c
invariant-loop-c l = Filled (cell_bytes l.held.set l.held.store.now) l.initial.out 0 l.c l.out
