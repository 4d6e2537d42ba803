-- The bits of what the operations on words give.
-- Assumes nothing.
use mathlib.Core.Path.{◌≡◌, refl, sym, ap, ◌∙◌}
use mathlib.Core.Bool.{Bool, true, false, ◌||◌}
use Prim.Native.Nat.{ℕ, ◌+◌, ◌-◌, ◌*◌, ◌/◌, ◌%◌, ◌^◌, ◌≤◌, ◌<◌}
use native.Mathlib.Nat.{lt_of_lt_of_le, div-eq_of_lt, mul_assoc}
use native.Mathlib.Omega.{arith}
use lib.Bits.{bit_and, bit_or, or_lt, or_add_and, and_le_l, and_le_r, and_shr, or_shr, and_mod, or_mod, and_mask, and_zero_r}
use lib.Pow.{pow-add, pow_mono, shr-shr, shl-shr, field, mod-mod-pow}
use lib.Dec.{leb}
use borrow.Author.Tests.{leb-true, leb-false, le-leb, lt-leb}
use Rattle.tile.specs.Bits.{bit_of}

pub bit-and : (j a b : ℕ) → bit_of j (bit_and a b) ≡ bit_and (bit_of j a) (bit_of j b)
bit-and j a b = ap (λ (x : ℕ). x % 2) (and_shr a b j) ∙ and_mod (a / 2 ^ j) (b / 2 ^ j) 1

pub bit-or : (j a b : ℕ) → bit_of j (bit_or a b) ≡ bit_or (bit_of j a) (bit_of j b)
bit-or j a b = ap (λ (x : ℕ). x % 2) (or_shr a b j) ∙ or_mod (a / 2 ^ j) (b / 2 ^ j) 1

-- a mask keeps a bit, or clears it
pub bit_kept : (j a m : ℕ) → bit_of j m ≡ 1 → bit_of j (bit_and a m) ≡ bit_of j a
bit_kept j a m e = bit-and j a m ∙ ap (bit_and (bit_of j a)) e ∙ and_mask (bit_of j a) 1 ∙ omega arith

pub bit-cleared : (j a m : ℕ) → bit_of j m ≡ 0 → bit_of j (bit_and a m) ≡ 0
bit-cleared j a m e = bit-and j a m ∙ ap (bit_and (bit_of j a)) e ∙ and_zero_r (bit_of j a)

pub bit-shr : (j a s : ℕ) → bit_of j (a / 2 ^ s) ≡ bit_of (s + j) a
bit-shr j a s = ap (λ (x : ℕ). x % 2) (shr-shr a s j)

-- there is no bit above a number's width
pub bit-above : (j a n : ℕ) → a < 2 ^ n → n ≤ j → bit_of j a ≡ 0
bit-above j a n l m = ap (λ (x : ℕ). x % 2) (div-eq_of_lt (lt_of_lt_of_le l (pow_mono m)))

pub bit-low : (j a n : ℕ) → j < n → bit_of j (a % 2 ^ n) ≡ bit_of j a
bit-low j a n l =
    let s : n ≡ (n - (j + 1) + 1) + j = omega arith in
    ap (λ (e : ℕ). a % 2 ^ e / 2 ^ j % 2) s ∙ ap (λ (q : ℕ). q % 2) (field a (n - (j + 1) + 1) j) ∙ mod-mod-pow (a / 2 ^ j) (n - (j + 1)) 1

pub bit-shl : (j a s : ℕ) → bit_of (s + j) (a * 2 ^ s) ≡ bit_of j a
bit-shl j a s = sym (bit-shr j (a * 2 ^ s) s) ∙ ap (bit_of j) (shl-shr a s)

pub bit_below : (j a s : ℕ) → j < s → bit_of j (a * 2 ^ s) ≡ 0
bit_below j a s l =
    let t : s ≡ (s - (j + 1) + 1) + j = omega arith in
    ap (λ (e : ℕ). a * 2 ^ e / 2 ^ j % 2) t
    ∙ ap (λ (x : ℕ). a * x / 2 ^ j % 2) (pow-add 2 (s - (j + 1) + 1) j)
    ∙ ap (λ (x : ℕ). x / 2 ^ j % 2) (sym (mul_assoc a (2 ^ (s - (j + 1) + 1)) (2 ^ j)))
    ∙ ap (λ (x : ℕ). x % 2) (shl-shr (a * 2 ^ (s - (j + 1) + 1)) j)
    ∙ ap (λ (x : ℕ). a * x % 2) (pow-add 2 (s - (j + 1)) 1)
    ∙ omega (arith, sym (mul_assoc a (2 ^ (s - (j + 1))) 2))

-- of two numbers one has 2^k or more exactly where their bits together do
large : (k a b : ℕ) (x y : Bool) → leb (2 ^ k) a ≡ x → leb (2 ^ k) b ≡ y → leb (2 ^ k) (bit_or a b) ≡ (x || y)
large k a b true y e f = le-leb (2 ^ k) (bit_or a b) (omega (arith, leb-true (2 ^ k) a e, or_add_and a b, and_le_r a b))
large k a b false true e f = le-leb (2 ^ k) (bit_or a b) (omega (arith, leb-true (2 ^ k) b f, or_add_and a b, and_le_l a b))
large k a b false false e f = lt-leb (2 ^ k) (bit_or a b) (or_lt k a b (leb-false (2 ^ k) a e) (leb-false (2 ^ k) b f))

pub large-or : (k a b : ℕ) → leb (2 ^ k) (bit_or a b) ≡ (leb (2 ^ k) a || leb (2 ^ k) b)
large-or k a b = large k a b (leb (2 ^ k) a) (leb (2 ^ k) b) refl refl
