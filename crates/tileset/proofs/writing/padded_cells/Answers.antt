-- Whole rows of cells are few.
use mathlib.Core.Path.{refl}
use Rattle.tileset.specs.Writing.{padded_cells}
use Rattle.tileset.proofs.WritingLaws.{padded-fits}
use Rattle.tileset.proofs.writing.padded_cells.Goals as goal

pub returns : goal.returns
unfolding padded_cells
returns c = rw c.tiles-tiles.ensures.0 (refl, padded-fits _ _ _ c.args.cells.grid c.args.stored c.requires)
