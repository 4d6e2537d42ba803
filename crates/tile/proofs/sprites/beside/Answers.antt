-- The fields side by side, as its contract says.
use mathlib.Core.Path.{refl}
use Rattle.tile.specs.Inner.{beside}
use Rattle.tile.proofs.sprites.beside.Goals as goal

pub returns : goal.returns
unfolding beside
returns c = refl
