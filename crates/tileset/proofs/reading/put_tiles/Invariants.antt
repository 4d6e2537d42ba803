-- The tiles before i are put.
use Rattle.words.proofs.Filling.{Filled}
use Rattle.tileset.specs.Reading.{tile_in}
use Rattle.tileset.proofs.reading.put_tiles.Given as goal

abbrev pub invariant-loop-i : goal.invariant-loop-i
invariant-loop-i l = Filled (tile_in l.fn.shape.mode l.fn.shape.depth l.fn.shape.width l.fn.shape.height l.bytes) l.initial.store 0 l.i l.store
