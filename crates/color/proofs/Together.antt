-- A top whose bits are all ones is below the bits of three numbers together only where it is below one of them. Assumes nothing.
use mathlib.Core.Path.{◌≡◌, refl}
use mathlib.Core.Bool.{Bool, true, false, ◌||◌}
use Prim.Native.Nat.{ℕ, ◌+◌, ◌^◌, ◌<◌}
use native.Mathlib.Omega.{arith}
use lib.Bits.{bit_or}
use lib.Dec.{ltb}
use borrow.Author.Tests.{ltb-true, ltb-false, lt-ltb, le-ltb}
use Rattle.std.proofs.lemmas.Nat.{le_or_l, le_or_r, or_lt}

module _ (k top a b c : ℕ) (whole : 2 ^ k ≡ top + 1) where
  held : (x : ℕ) → ltb top x ≡ false → x < 2 ^ k
  held x is = omega (arith, ltb-false top x is, whole)

  cases : (p q r : Bool) → ltb top a ≡ p → ltb top b ≡ q → ltb top c ≡ r → ltb top (bit_or (bit_or a b) c) ≡ (p || (q || r))
  cases true q r ea eb ec = lt-ltb top _ (omega (arith, ltb-true top a ea, le_or_l a b, le_or_l (bit_or a b) c))
  cases false true r ea eb ec = lt-ltb top _ (omega (arith, ltb-true top b eb, le_or_r a b, le_or_l (bit_or a b) c))
  cases false false true ea eb ec = lt-ltb top _ (omega (arith, ltb-true top c ec, le_or_r (bit_or a b) c))
  cases false false false ea eb ec =
      le-ltb top _ (omega (arith, or_lt k (bit_or a b) c (or_lt k a b (held a ea) (held b eb)) (held c ec), whole))

  pub together : ltb top (bit_or (bit_or a b) c) ≡ (ltb top a || (ltb top b || ltb top c))
  together = cases (ltb top a) (ltb top b) (ltb top c) refl refl refl
