use mathlib.Core.Path.{refl}
use Rattle.words.proofs.Filling.{filled_more}
use Rattle.picture.proofs.put_line.Goals as goal

pub loop-x-preserved : goal.loop-x-preserved
loop-x-preserved c = filled_more 8 (λ x. refl) c.loop-x.invariant c.put_eight.ensures
