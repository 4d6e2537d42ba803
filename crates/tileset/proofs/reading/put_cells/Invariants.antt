-- The tiles before n are put.
use mathlib.Core.Path.{◌≡◌}
use lib.ListN.{length}
use Rattle.words.proofs.Filling.{Filled}
use Rattle.tileset.specs.Reading.{tile_in}
use Rattle.tileset.proofs.reading.put_cells.Given as goal

abbrev pub invariant-loop-n : goal.invariant-loop-n
invariant-loop-n l =
    (length l.cells ≡ 4096) × Filled (tile_in l.shape.mode l.shape.depth l.shape.width l.shape.height l.bytes) l.initial.store 0 l.n l.store
