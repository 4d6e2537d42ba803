use mathlib.Core.Path.{refl}
use Rattle.words.proofs.Filling.{filled_more}
use Rattle.tile.proofs.eights.put_words.Goals as goal

pub loop-i-preserved : goal.loop-i-preserved
loop-i-preserved c = filled_more 8 (λ j. refl) c.loop-i.invariant c.put_bytes.ensures
