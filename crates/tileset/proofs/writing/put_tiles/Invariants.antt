-- The tiles before i are put.
use Rattle.words.proofs.Filling.{Filled}
use Rattle.tileset.specs.Writing.{sprite_bytes}
use Rattle.tileset.proofs.writing.put_tiles.Given as goal

abbrev pub invariant-loop-i : goal.invariant-loop-i
invariant-loop-i l = Filled (sprite_bytes l.fn.held.set l.held.store.now) l.initial.out 0 l.i l.out
