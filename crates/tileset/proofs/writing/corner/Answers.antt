-- The corner is inside the tile, and the tile below 65,536.
use Rattle.tileset.specs.Writing.{corner_of}
use Rattle.tileset.proofs.writing.corner.Goals as goal

pub returns : goal.returns
unfolding corner_of
returns c = let is = c.of-cells.ensures in rw (is.row, is.across, is.down, c.requires.is)
