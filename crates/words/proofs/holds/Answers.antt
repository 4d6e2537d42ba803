-- Nothing is left above the bits.
use mathlib.Core.Path.{ap, ◌∙◌}
use Prim.Native.Nat.{ℕ}
use lib.Dec.{eqb}
use Rattle.words.proofs.Bits.{holds-law}
use Rattle.words.proofs.holds.Goals as goal

pub returns : goal.returns
returns c = ap (λ (n : ℕ). eqb n 0) c.down.ensures ∙ holds-law c.args.x c.args.bits
