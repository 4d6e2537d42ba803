-- The laws of eight bytes as one word.
-- Assumes nothing.
use mathlib.Core.Path.{◌≡◌, refl, sym, ap, ap₂, ◌∙◌}
use mathlib.Core.Bool.{Bool, true, false, cond}
use mathlib.Core.List.{List, [], ◌∷◌}
use Prim.Native.Nat.{ℕ, zero, suc, ◌+◌, ◌-◌, ◌*◌, ◌/◌, ◌%◌, ◌^◌, ◌≤◌, ◌<◌}
use native.Mathlib.Nat.{lt_of_lt_of_le, le_of_suc-le-suc, not-suc-le-zero, add-zero, zero-add, add-suc, suc-add, suc-mul, div-div-eq-div-mul, mul_comm}
use native.Mathlib.Numerals.{unary_clauses}
use native.Mathlib.Omega.{arith}
use lib.ListN.{get_or}
use lib.Pow.{pow-add, pow_mono}
use Rattle.words.specs.Inner.{wide, eight_at, word_at, eight, byte_in, bytes_in}
use Rattle.words.proofs.Items.{each-eq}

pub wide-same : (n at : ℕ) (f g : ℕ → ℕ) → ((j : ℕ) → at ≤ j → j < at + n → f j ≡ g j) → wide n at f ≡ wide n at g
unfolding wide
wide-same zero at f g h = refl
wide-same (suc n) at f g h =
    ap₂ (λ (x y : ℕ). x + 256 * y) (h at (omega arith) (omega arith)) (wide-same n (suc at) f g (λ j a b. h j (omega arith) (omega arith)))

wide-lt : (n at : ℕ) (f : ℕ → ℕ) → ((j : ℕ) → f j < 256) → wide n at f < 2 ^ (n * 8)
unfolding wide
wide-lt zero at f h = omega arith
wide-lt (suc n) at f h = rw (suc-mul n 8, pow-add 2 (n * 8) 8) (omega (arith, h at, wide-lt n (suc at) f h))

pub wide-full : (n : ℕ) (f : ℕ → ℕ) → ((j : ℕ) → f j < 256) → n ≤ 8 → wide n 0 f < 2 ^ 64
wide-full n f h l = lt_of_lt_of_le (wide-lt n 0 f h) (pow_mono {j = 64} (omega arith))

pub wide-byte : (n at p : ℕ) (f : ℕ → ℕ) → ((j : ℕ) → f j < 256) → p < n → byte_in (wide n at f) p ≡ f (at + p)
unfolding wide
wide-byte zero at p f h l = absurd (not-suc-le-zero l)
wide-byte (suc n) at zero f h l = rw add-zero (omega (arith, h at))
wide-byte (suc n) at (suc p) f h l =
    let v = f at + 256 * wide n (suc at) f in
    ap (λ (d : ℕ). v / d % 256) (ap (λ (e : ℕ). 2 ^ e) (suc-mul p 8) ∙ pow-add 2 (p * 8) 8 ∙ mul_comm (2 ^ (p * 8)) 256)
    ∙ ap (λ (q : ℕ). q % 256) (sym (div-div-eq-div-mul v 256 (2 ^ (p * 8))))
    ∙ ap (λ (q : ℕ). q / 2 ^ (p * 8) % 256) (omega (arith, h at))
    ∙ wide-byte n (suc at) p f h (le_of_suc-le-suc l)
    ∙ ap f (suc-add at p ∙ sym (add-suc at p))

-- ---- eight bytes read one after the other

abbrev eight_as_word : ℕ → ℕ → ℕ → ℕ → ℕ → ℕ → ℕ → ℕ → ℕ
eight_as_word a b c d e f g h = a + 256 * (b + 256 * (c + 256 * (d + 256 * (e + 256 * (f + 256 * (g + 256 * h))))))

module _ (s : List ℕ) (at : ℕ) (a b c d e f g h r : ℕ) (ea : a ≡ get_or s at 0) (eb : b ≡ get_or s (at + 1) 0) (ec : c ≡ get_or s (at + 2) 0)
    (ed : d ≡ get_or s (at + 3) 0) (ee : e ≡ get_or s (at + 4) 0) (ef : f ≡ get_or s (at + 5) 0) (eg : g ≡ get_or s (at + 6) 0) (eh : h ≡ get_or s (at + 7) 0) where
  pub word_on : (back : Bool) → back ≡ false → r ≡ eight_as_word a b c d e f g h → r ≡ word_at back s at
  unfolding wide
  word_on back off q = q ∙ rw (off, ea, eb, ec, ed, ee, ef, eg, eh) (simp unary_clauses refl)

  pub word_back : (back : Bool) → back ≡ true → r ≡ eight_as_word h g f e d c b a → r ≡ word_at back s at
  unfolding wide
  word_back back up q = q ∙ rw (up, ea, eb, ec, ed, ee, ef, eg, eh) (simp unary_clauses refl)

-- ---- the bytes of their word are the eight again: of equal words they are equal

module _ (xs : List ℕ) (small : (i : ℕ) → get_or xs i 0 < 256) where
  pub word_small : (back : Bool) (at : ℕ) → word_at back xs at < 2 ^ 64
  word_small back at = wide-full 8 (eight_at back xs at) (λ x. small (at + cond back (7 - x) x)) (omega arith)

  pub word-byte-at : (back : Bool) (at m : ℕ) → m < 8 → byte_in (word_at back xs at) m ≡ eight_at back xs at m
  word-byte-at back at m l = wide-byte 8 0 m (eight_at back xs at) (λ x. small (at + cond back (7 - x) x)) l ∙ ap (eight_at back xs at) (zero-add m)

  pub word-eight : (back : Bool) (at : ℕ) → bytes_in (word_at back xs at) ≡ eight back xs at
  word-eight back at =
      each-eq 8 (λ m. byte_in (word_at back xs at) m ∷ []) (λ x. eight_at back xs at x ∷ []) (λ m l. ap (λ (v : ℕ). v ∷ []) (word-byte-at back at m l))
