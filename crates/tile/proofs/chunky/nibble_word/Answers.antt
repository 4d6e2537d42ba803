-- Where each of its bits comes from was computed.
use mathlib.Core.Path.{ap₂, ◌∙◌}
use Prim.Native.Nat.{ℕ, ◌+◌, ◌*◌, ◌%◌, ◌^◌}
use lib.Bits.{bit_or}
use lib.ListN.{get_or}
use Rattle.tile.specs.Inner.{nibbles}
use Rattle.tile.proofs.Wiring.{value}
use Rattle.tile.proofs.Wires.{word-is, nibbles-value, nibble_words, nibbles-are}
use Rattle.tile.proofs.chunky.nibble_word.Goals as goal

pub returns : goal.returns
unfolding value nibble_words
returns g c =
    let a = c.args in
    let u = g.row.UP in
    let e : ℕ → ℕ = λ i. get_or a.ws.now i 0 in
    ap₂ (λ (x y : ℕ). bit_or x (y * 2 ^ 32 % 2 ^ 64)) (c.row_nibbles.ensures ∙ nibbles-value e u (a.b * 2)) (c.row_nibbles-2.ensures ∙ nibbles-value e u (a.b * 2 + 1))
    ∙ word-is (nibbles u).bytes 4 (nibble_words u) (nibbles-are u c.requires.0) a.ws.now c.fits-ws a.b c.requires.1
