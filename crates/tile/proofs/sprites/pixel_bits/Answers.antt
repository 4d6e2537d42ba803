-- Bits side by side, then pairs of bits.
use mathlib.Core.Path.{ap₂, ◌∙◌}
use Prim.Native.Nat.{◌*◌, ◌/◌}
use Rattle.tile.specs.Inner.{beside, pixel_bits}
use Rattle.tile.proofs.sprites.pixel_bits.Goals as goal

pub returns : goal.returns
unfolding pixel_bits
returns c =
    let k = c.args.k in
    c.beside.ensures ∙ ap₂ (beside (k / 2 * 2) 2 0x3333333333333333) c.beside-low.ensures c.beside-high.ensures
