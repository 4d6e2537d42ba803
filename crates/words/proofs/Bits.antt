-- The laws of numbers as bits.
-- Assumes nothing.
use mathlib.Core.Path.{◌≡◌, refl}
use mathlib.Core.Bool.{Bool, true, false}
use Prim.Native.Nat.{ℕ, ◌+◌, ◌*◌, ◌/◌, ◌^◌, ◌<◌, ◌≤◌}
use native.Mathlib.Nat.{div-eq_of_lt, div-lt_iff_lt-mul, one-mul, lt_of_lt_of_le}
use native.Mathlib.Omega.{arith}
use lib.Dec.{ltb, eqb}
use lib.Pow.{pow_pos, pow_mono, shl_lt}
use borrow.Author.Tests.{ltb-true, ltb-false, eq-eqb, ne_eqb}

-- x fits some bits where nothing is left above them
above-none : (x bits : ℕ) (b : Bool) → ltb x (2 ^ bits) ≡ b → eqb (x / 2 ^ bits) 0 ≡ b
above-none x bits true e = eq-eqb (x / 2 ^ bits) 0 (div-eq_of_lt (ltb-true x (2 ^ bits) e))
above-none x bits false e =
    ne_eqb (x / 2 ^ bits) 0
    (λ z. let few : x / 2 ^ bits < 1 = omega arith in
    let small : x < 1 * 2 ^ bits = (div-lt_iff_lt-mul (pow_pos bits)).0 few in
    omega (arith, ltb-false x (2 ^ bits) e, one-mul (2 ^ bits)))

pub holds-law : (x bits : ℕ) → eqb (x / 2 ^ bits) 0 ≡ ltb x (2 ^ bits)
holds-law x bits = above-none x bits (ltb x (2 ^ bits)) refl

-- sixteen bits, moved up by sixteen at most, stay below 2 ^ 32
pub up_small : (x places : ℕ) → x < 65536 → places ≤ 16 → x * 2 ^ places < 4294967296
up_small x places hx hp =
    let near : x * 2 ^ places < 2 ^ (16 + places) = shl_lt 16 places hx in
    omega (arith, pow_mono {i = 16 + places} {j = 32} (omega arith))

-- j bits, moved up by k places at most
pub up-under : {x p : ℕ} (j k : ℕ) → x < 2 ^ j → p ≤ k → x * 2 ^ p < 2 ^ (j + k)
up-under {x} {p} j k hx hp =
    let near : x * 2 ^ p < 2 ^ (j + p) = shl_lt j p hx in
    lt_of_lt_of_le near (pow_mono (omega arith))
