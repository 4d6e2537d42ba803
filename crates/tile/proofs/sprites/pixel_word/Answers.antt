-- Where each of its bits comes from was computed.
use mathlib.Core.Path.{ap, ap₂, ◌∙◌}
use mathlib.Core.List.{[], ◌∷◌}
use Prim.Native.Nat.{ℕ, ◌*◌, ◌/◌, ◌%◌, ◌^◌}
use lib.Bits.{bit_and, bit_or}
use Rattle.tile.specs.Inner.{quarter, beside, pixel_bits}
use Rattle.tile.proofs.Wiring.{value}
use Rattle.tile.proofs.Wires.{word-is, four-small, sides, bits_of, pixels, pixels-are}
use Rattle.tile.proofs.sprites.pixel_word.Goals as goal

pub returns : goal.returns
unfolding value pixels bits_of sides beside pixel_bits
returns c =
    let k = c.args.k in
    let last : ℕ → ℕ = λ v. let z = bit_and (v / 2 ^ (k / 4 * 32)) 0x00000000ffffffff in bit_and (bit_or z (z * 2 ^ 28 % 2 ^ 64)) 0x0f0f0f0f0f0f0f0f in
    ap last
    (c.beside-four.ensures
    ∙ ap₂ (beside (k / 2 % 2 * 16) 16 0x0000ffff0000ffff)
    (c.beside-x.ensures ∙ ap₂ (beside (k % 2 * 8) 8 0x00ff00ff00ff00ff) c.pixel_bits.ensures c.pixel_bits-2.ensures)
    (c.beside-y.ensures ∙ ap₂ (beside (k % 2 * 8) 8 0x00ff00ff00ff00ff) c.pixel_bits-3.ensures c.pixel_bits-4.ensures))
    ∙ word-is quarter 8 pixels pixels-are (c.args.a ∷ c.args.b ∷ c.args.c ∷ c.args.d ∷ []) (four-small c.ranges.a.fits c.ranges.b.fits c.ranges.c.fits c.ranges.d.fits) k c.requires
