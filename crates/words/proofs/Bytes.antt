-- The laws of words as bytes: both round trips, in either order, and the comparison of bytes.
-- Assumes nothing.
use mathlib.Core.Path.{◌≡◌, refl, ap, ◌∙◌, subst}
use mathlib.Core.Bool.{Bool, true, false}
use mathlib.Core.List.{List, [], ◌∷◌, reverse, reverse_aux, reverse-reverse}
use Prim.Native.Nat.{ℕ, zero, suc, ◌+◌, ◌*◌, ◌/◌, ◌%◌, ◌^◌, ◌<◌, ◌≤◌}
use native.Mathlib.Nat.{pow-suc, mod-add-div}
use native.Mathlib.Numerals.{add-one}
use native.Mathlib.Omega.{arith}
use lib.Dec.{T, ltb, eqb, ltb→lt, eqb→eq}
use lib.ListN.{length, get_or, drop, take, length-reverse, drop_of_length-le}
use lib.Seq.{drop-cons}
use borrow.Author.Tests.{eq-eqb, ne_eqb}
use Rattle.words.specs.Bytes.{least_first, value_of, bytes_of, word_of, are_bytes, same}
use Rattle.words.proofs.Loops.{both_left, both_right, both, and-false}

length-least : (n w : ℕ) → length (least_first n w) ≡ n
length-least zero w = refl
length-least (suc n) w = ap suc (length-least n _)

pub length-bytes : (n : ℕ) (most : Bool) (w : ℕ) → length (bytes_of n most w) ≡ n
length-bytes n true w = length-reverse (least_first n w) ∙ length-least n w
length-bytes n false w = length-least n w

-- a word, its bytes, and the word again
value-least : (n w : ℕ) → w < 256 ^ n → value_of (least_first n w) ≡ w
value-least zero w h = omega arith
value-least (suc n) w h =
    let rest : w / 256 < 256 ^ n = omega (arith, pow-suc 256 n) in
    ap (λ (k : ℕ). w % 256 + 256 * k) (value-least n (w / 256) rest) ∙ mod-add-div w 256

pub word_bytes : (n : ℕ) (most : Bool) (w : ℕ) → w < 256 ^ n → word_of most (bytes_of n most w) ≡ w
word_bytes n true w h = ap value_of (reverse-reverse (least_first n w)) ∙ value-least n w h
word_bytes n false w h = value-least n w h

-- bytes, their word, and the bytes again
bytes-turned : (l r : List ℕ) → T (are_bytes l) → T (are_bytes r) → T (are_bytes (reverse_aux l r))
bytes-turned [] r tl tr = tr
bytes-turned (b ∷ l) r tl tr =
    bytes-turned l (b ∷ r) (both_right (ltb b 256) (are_bytes l) tl) (both (ltb b 256) (are_bytes r) (both_left (ltb b 256) (are_bytes l) tl) tr)

least-value : (bs : List ℕ) → T (are_bytes bs) → least_first (length bs) (value_of bs) ≡ bs
least-value [] t = refl
least-value (b ∷ bs) t =
    let small : b < 256 = ltb→lt b 256 (both_left (ltb b 256) (are_bytes bs) t) in
    let low : (b + 256 * value_of bs) % 256 ≡ b = omega arith in
    let high : (b + 256 * value_of bs) / 256 ≡ value_of bs = omega arith in
    rw (low, high, least-value bs (both_right (ltb b 256) (are_bytes bs) t))

pub bytes_word : (most : Bool) (bs : List ℕ) → T (are_bytes bs) → bytes_of (length bs) most (word_of most bs) ≡ bs
bytes_word true bs t =
    rw (← length-reverse bs, least-value (reverse bs) (bytes-turned bs [] t tt)) (reverse-reverse bs)
bytes_word false bs t = least-value bs t

value-lt : (bs : List ℕ) → T (are_bytes bs) → value_of bs < 256 ^ length bs
value-lt [] t = omega arith
value-lt (b ∷ bs) t =
    omega (arith, ltb→lt b 256 (both_left (ltb b 256) (are_bytes bs) t), value-lt bs (both_right (ltb b 256) (are_bytes bs) t), pow-suc 256 (length bs))

pub word_lt : (most : Bool) (bs : List ℕ) → T (are_bytes bs) → word_of most bs < 256 ^ length bs
word_lt true bs t = subst (λ (n : ℕ). value_of (reverse bs) < 256 ^ n) (length-reverse bs) (value-lt (reverse bs) (bytes-turned bs [] t tt))
word_lt false bs t = value-lt bs t

-- the word of one byte, and of two
module _ (l : List ℕ) (at : ℕ) where
  pub word-1 : (most : Bool) → at < length l → get_or l at 0 ≡ word_of most (take 1 (drop at l))
  word-1 true h = rw (drop-cons l at 0 h) (omega arith)
  word-1 false h = rw (drop-cons l at 0 h) (omega arith)

  two : at + 1 < length l → take 2 (drop at l) ≡ get_or l at 0 ∷ get_or l (at + 1) 0 ∷ []
  two h =
      let h0 : at < length l = omega arith in
      let h1 : suc at < length l = omega arith in
      rw (drop-cons l at 0 h0, drop-cons l (suc at) 0 h1, add-one)

  pub word-2-least : at + 1 < length l → get_or l at 0 + 256 * get_or l (at + 1) 0 ≡ word_of false (take 2 (drop at l))
  word-2-least h = rw (two h) (omega arith)

  pub word-2-most : at + 1 < length l → get_or l (at + 1) 0 + 256 * get_or l at 0 ≡ word_of true (take 2 (drop at l))
  word-2-most h = rw (two h) (omega arith)

-- comparing bytes: lists of two lengths differ, and from one index to the next
pub differ : (a b : List ℕ) → (length a ≡ length b → ⊥) → same a b ≡ false
differ [] [] h = absurd (h refl)
differ [] (y ∷ ys) h = refl
differ (x ∷ xs) [] h = refl
differ (x ∷ xs) (y ∷ ys) h = rw (differ xs ys (λ e. h (ap suc e))) (and-false (eqb x y))

module _ (a b : List ℕ) (i : ℕ) (ha : i < length a) (hb : i < length b) where
  pub same_stop : (get_or a i 0 ≡ get_or b i 0 → ⊥) → same (drop i a) (drop i b) ≡ false
  same_stop h = rw (drop-cons a i 0 ha, drop-cons b i 0 hb, ne_eqb _ _ h)

  pub same_step : get_or a i 0 ≡ get_or b i 0 → same (drop i a) (drop i b) ≡ same (drop (i + 1) a) (drop (i + 1) b)
  same_step h = rw (add-one, drop-cons a i 0 ha, drop-cons b i 0 hb, eq-eqb _ _ h)

pub same_end : (a b : List ℕ) (i : ℕ) → length a ≤ i → length b ≤ i → same (drop i a) (drop i b) ≡ true
same_end a b i ha hb = rw (drop_of_length-le a {i = i} ha, drop_of_length-le b {i = i} hb)

pub same-eq : (a b : List ℕ) → T (same a b) → a ≡ b
same-eq [] [] t = refl
same-eq [] (y ∷ ys) t = absurd t
same-eq (x ∷ xs) [] t = absurd t
same-eq (x ∷ xs) (y ∷ ys) t =
    rw (eqb→eq x y (both_left (eqb x y) (same xs ys) t), same-eq xs ys (both_right (eqb x y) (same xs ys) t))

-- what was read of a list stands in any list that is equal to it
pub read_off : (k : ℕ) {r : ℕ} {l known : List ℕ} → r ≡ get_or l k 0 → l ≡ known → r ≡ get_or known k 0
read_off k e f = e ∙ ap (λ (x : List ℕ). get_or x k 0) f

-- a part of bytes is bytes
pub bytes_take : (n : ℕ) (bs : List ℕ) → T (are_bytes bs) → T (are_bytes (take n bs))
bytes_take zero bs t = tt
bytes_take (suc n) [] t = tt
bytes_take (suc n) (b ∷ bs) t =
    both (ltb b 256) (are_bytes (take n bs)) (both_left (ltb b 256) (are_bytes bs) t) (bytes_take n bs (both_right (ltb b 256) (are_bytes bs) t))

pub bytes_drop : (n : ℕ) (bs : List ℕ) → T (are_bytes bs) → T (are_bytes (drop n bs))
bytes_drop zero bs t = t
bytes_drop (suc n) [] t = tt
bytes_drop (suc n) (b ∷ bs) t = bytes_drop n bs (both_right (ltb b 256) (are_bytes bs) t)
