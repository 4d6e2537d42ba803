-- Where each of its bits comes from was computed.
use mathlib.Core.Path.{ap₂, ◌∙◌}
use Prim.Native.Nat.{ℕ, ◌+◌, ◌*◌, ◌%◌, ◌^◌}
use lib.Bits.{bit_or}
use lib.ListN.{get_or}
use Rattle.tile.specs.Packings.{ngp}
use Rattle.tile.proofs.Wiring.{value}
use Rattle.tile.proofs.Wires.{word-is, pairs-value, ngps, ngps-are}
use Rattle.tile.proofs.chunky.ngp_word.Goals as goal

pub returns : goal.returns
unfolding value ngps
returns c =
    let a = c.args in
    let e : ℕ → ℕ = λ i. get_or a.ws.now i 0 in
    let beside : ℕ → ℕ → ℕ → ℕ = λ n x y. bit_or x (y * 2 ^ n % 2 ^ 64) in
    ap₂ (beside 48)
    (ap₂ (beside 32) (ap₂ (beside 16) (c.row_pairs.ensures ∙ pairs-value e (a.b * 4)) (c.row_pairs-2.ensures ∙ pairs-value e (a.b * 4 + 1))) (c.row_pairs-3.ensures ∙ pairs-value e (a.b * 4 + 2)))
    (c.row_pairs-4.ensures ∙ pairs-value e (a.b * 4 + 3))
    ∙ word-is (ngp 8 8).bytes 2 ngps ngps-are a.ws.now c.fits-ws a.b c.requires
