-- The first index formula fits.
use Rattle.tileset.specs.Numbers.{starts_at}
use Rattle.tileset.proofs.numbers.Cells.starts_at.Goals as goal

pub returns : goal.returns
unfolding starts_at
returns c = rw c.tiles-tiles.ensures.0
