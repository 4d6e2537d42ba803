-- The second index formula fits.
use Rattle.tileset.specs.Numbers.{belongs_to}
use Rattle.tileset.proofs.numbers.Cells.belongs_to.Goals as goal

pub returns : goal.returns
unfolding belongs_to
returns c = rw c.tiles.ensures.0
