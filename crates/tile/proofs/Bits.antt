-- The laws of a number by its bits: its bits come back, and so does it.
-- Assumes nothing.
use mathlib.Core.Path.{◌≡◌, refl, sym, ap, ap₂, ◌∙◌}
use Prim.Native.Nat.{ℕ, zero, suc, ◌+◌, ◌*◌, ◌/◌, ◌%◌, ◌^◌, ◌≤◌, ◌<◌}
use native.Mathlib.Nat.{le_of_suc-le-suc, not-suc-le-zero, zero-lt-suc, add-zero, add-suc, suc-add, zero-add, pow-suc, pow-succ', mod-one, mul_assoc, div-div-eq-div-mul}
use native.Mathlib.Omega.{arith}
use lib.Arith.{mod-mul}
use lib.Pow.{pow_pos}
use Rattle.tile.specs.Bits.{bit_of, from_bits}

pub bit-lt : (p v : ℕ) → bit_of p v < 2
bit-lt p v = omega arith

-- halving takes the lowest bit off
bit-half : (p v : ℕ) → bit_of (suc p) v ≡ bit_of p (v / 2)
bit-half p v = ap (λ (d : ℕ). v / d % 2) (pow-succ' 2 p) ∙ ap (λ (q : ℕ). q % 2) (sym (div-div-eq-div-mul v 2 (2 ^ p)))

pub bits-same : (n at : ℕ) (f g : ℕ → ℕ) → ((j : ℕ) → at ≤ j → j < at + n → f j ≡ g j) → from_bits n at f ≡ from_bits n at g
unfolding from_bits
bits-same zero at f g h = refl
bits-same (suc n) at f g h =
    ap₂ (λ (x y : ℕ). x + 2 * y) (h at (omega arith) (omega arith)) (bits-same n (suc at) f g (λ j l m. h j (omega arith) (omega arith)))

pub bits-lt : (n at : ℕ) (f : ℕ → ℕ) → ((j : ℕ) → f j < 2) → from_bits n at f < 2 ^ n
unfolding from_bits
bits-lt zero at f h = omega arith
bits-lt (suc n) at f h = omega (arith, h at, bits-lt n (suc at) f h, pow-suc 2 n)

-- bit p of the number whose bits are f
pub bit-of-bits : (n at p : ℕ) (f : ℕ → ℕ) → ((j : ℕ) → f j < 2) → p < n → bit_of p (from_bits n at f) ≡ f (at + p)
unfolding from_bits
bit-of-bits zero at p f h l = absurd (not-suc-le-zero l)
bit-of-bits (suc n) at zero f h l = rw add-zero (omega (arith, h at))
bit-of-bits (suc n) at (suc p) f h l =
    bit-half p (f at + 2 * from_bits n (suc at) f) ∙ ap (bit_of p) (omega (arith, h at))
    ∙ bit-of-bits n (suc at) p f h (le_of_suc-le-suc l)
    ∙ ap f (suc-add at p ∙ sym (add-suc at p))

-- the number whose bits are n bits of v from bit at on
pub bits_of : (n at v : ℕ) → from_bits n at (λ j. bit_of j v) ≡ v / 2 ^ at % 2 ^ n
unfolding from_bits
bits_of zero at v = sym (mod-one (v / 2 ^ at))
bits_of (suc n) at v =
    let half : v / 2 ^ suc at ≡ v / 2 ^ at / 2 = ap (λ (d : ℕ). v / d) (pow-suc 2 at) ∙ sym (div-div-eq-div-mul v (2 ^ at) 2) in
    let ih : from_bits n (suc at) (λ j. bit_of j v) ≡ v / 2 ^ at / 2 % 2 ^ n = bits_of n (suc at) v ∙ ap (λ (q : ℕ). q % 2 ^ n) half in
    let split : v / 2 ^ at % (2 ^ n * 2) ≡ (v / 2 ^ at / 2 % 2 ^ n) * 2 + v / 2 ^ at % 2 = mod-mul (v / 2 ^ at) (pow_pos n) (zero-lt-suc 1) in
    rw (pow-suc 2 n) (omega arith)

-- ---- fields: bits that stand side by side

bits-shift : (n s at : ℕ) (f : ℕ → ℕ) → from_bits n at (λ j. f (s + j)) ≡ from_bits n (s + at) f
unfolding from_bits
bits-shift zero s at f = refl
bits-shift (suc n) s at f = ap (λ (x : ℕ). f (s + at) + 2 * x) (bits-shift n s (suc at) f ∙ ap (λ (m : ℕ). from_bits n m f) (add-suc s at))

-- n bits of v from bit s on
pub field : (n s v : ℕ) → from_bits n 0 (λ p. bit_of (s + p) v) ≡ v / 2 ^ s % 2 ^ n
field n s v = bits-shift n s 0 (λ j. bit_of j v) ∙ ap (λ (m : ℕ). from_bits n m (λ j. bit_of j v)) (add-zero s) ∙ bits_of n s v

-- the low n bits and the rest
pub bits-split : (n m at : ℕ) (f : ℕ → ℕ) → from_bits (n + m) at f ≡ from_bits n at f + 2 ^ n * from_bits m (at + n) f
unfolding from_bits
bits-split zero m at f = rw (zero-add, add-zero) (omega arith)
bits-split (suc n) m at f =
    let ih : from_bits (n + m) (suc at) f ≡ from_bits n (suc at) f + 2 ^ n * from_bits m (suc at + n) f = bits-split n m (suc at) f in
    let here : suc at + n ≡ at + suc n = suc-add at n ∙ sym (add-suc at n) in
    rw (suc-add, ← here, pow-succ', mul_assoc) (omega arith)
