-- The pixel at the flipped place.
use mathlib.Core.Path.{sym, ap, ◌∙◌}
use Prim.Native.Nat.{ℕ}
use native.Mathlib.Omega.{arith}
use lib.ListN.{get_or}
use Rattle.flip.proofs.Group.{flipped-at}
use Rattle.index.proofs.pixel.Goals as goal

pub returns : goal.returns
returns c =
    let t = c.args.tile.now in (
      c.from.ensures ∙ ap (λ (k : ℕ). get_or t k 0) c.flip_at-k.ensures.0 ∙ sym (flipped-at c.args.f 8 8 t c.args.i c.requires),
      omega (arith, c.from.ensures, c.fits-tile c.flip_at-k.result),
    )
