use mathlib.Core.Path.{refl}
use Rattle.words.proofs.Filling.{filled_next}
use Rattle.tile.proofs.sprites.cell_pixels.Goals as goal

pub loop-j-preserved : goal.loop-j-preserved
loop-j-preserved c = filled_next 8 (λ i. refl) c.loop-j.invariant c.put_quarter.ensures
