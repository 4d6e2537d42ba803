-- The laws of words made of fields: a word stays below 2 to its bits, and the two round trips, once for every list of fields.
-- Assumes nothing.
use mathlib.Core.Path.{◌≡◌, refl, sym, ap, ◌∙◌}
use mathlib.Core.Bool.{Bool, true, false}
use mathlib.Core.List.{List, [], ◌∷◌}
use Prim.Native.Nat.{ℕ, zero, suc, ◌+◌, ◌*◌, ◌/◌, ◌%◌, ◌^◌, ◌<◌, ◌≤◌}
use native.Mathlib.Nat.{mod-lt, mod-eq_of_lt, div-eq_of_lt, add-mul-div_left, add-mul-mod_self_left, mod-add-div, mul-le-mul_left, mul_comm, zero-add, mul-suc, div-lt_iff_lt-mul}
use native.Mathlib.Omega.{arith}
use lib.Dec.{T, ltb, eqb, ltb→lt}
use lib.ListN.{length, get_or, set, replicate, length-set, get_or-replicate}
use lib.Seq.{get_or-set_same, get_or-set_other, set-set, set-get_or, ext_get_or}
use lib.Pow.{pow_pos, pow-add}
use borrow.Author.Tests.{eqb-true, eqb-false}
use Rattle.words.specs.Bytes.{bytes_of, word_of, are_bytes}
use Rattle.words.specs.Fields.{Field, join, split}
use Rattle.words.specs.Inner.{bits_of, bits_for, are_fields}
use Rattle.words.proofs.Bytes.{word_bytes, bytes_word, word_lt}
use Rattle.words.proofs.Loops.{both_left, both_right}

pub first_field : (f : Field) (fs : List Field) → T (are_fields (f ∷ fs)) → f.value < 6
first_field f fs t = ltb→lt f.value 6 (both_left (ltb f.value 6) (are_fields fs) t)

pub other-fields : (f : Field) (fs : List Field) → T (are_fields (f ∷ fs)) → T (are_fields fs)
other-fields f fs t = both_right (ltb f.value 6) (are_fields fs) t

-- one digit below n with y above it
digit_lt : {x y n m : ℕ} → x < n → y < m → x + n * y < n * m
digit_lt {x} {y} {n} {m} hx hy =
    let h : n * suc y ≤ n * m = mul-le-mul_left n hy in
    omega (arith, mul-suc n y)

digit-mod : (x y n : ℕ) → x < n → (x + n * y) % n ≡ x
digit-mod x y n h = add-mul-mod_self_left x n y ∙ mod-eq_of_lt h

digit-div : (x y n : ℕ) → x < n → (x + n * y) / n ≡ y
digit-div x y n h =
    let p : zero < n = omega arith in
    add-mul-div_left x y p ∙ ap (λ (k : ℕ). k + y) (div-eq_of_lt h) ∙ zero-add y

pub join-lt : (fs : List Field) (vs : List ℕ) → join fs vs < 2 ^ bits_of fs
join-lt [] vs = omega arith
join-lt (f ∷ fs) vs =
    rw (pow-add 2 f.bits (bits_of fs)) (digit_lt (mod-lt (get_or vs f.value 0) (pow_pos f.bits)) (join-lt fs (set vs f.value (get_or vs f.value 0 / 2 ^ f.bits))))

pub length-split : (fs : List Field) (w : ℕ) → length (split fs w) ≡ 6
length-split [] w = refl
length-split (f ∷ fs) w = simp length-set (length-split fs (w / 2 ^ f.bits))

-- what was put into a field is taken out of it
put-take : (fs : List Field) (r : List ℕ) (k n x : ℕ) → k < length r → x < n →
    get_or (set r k (x + n * get_or r k 0)) k 0 % n + n * join fs (set (set r k (x + n * get_or r k 0)) k (get_or (set r k (x + n * get_or r k 0)) k 0 / n)) ≡ x + n * join fs r
put-take fs r k n x hk hx =
    rw (get_or-set_same r k (x + n * get_or r k 0) 0 hk, digit-mod x (get_or r k 0) n hx, digit-div x (get_or r k 0) n hx, set-set, set-get_or)

-- reading a word, then writing what was read
pub join-split : (fs : List Field) (w : ℕ) → T (are_fields fs) → w < 2 ^ bits_of fs → join fs (split fs w) ≡ w
join-split [] w t h = omega arith
join-split (f ∷ fs) w t h =
    let n = 2 ^ f.bits in
    let pos : zero < n = pow_pos f.bits in
    let hk : f.value < length (split fs (w / n)) = omega (arith, length-split fs (w / n), first_field f fs t) in
    let below : w / n < 2 ^ bits_of fs = (div-lt_iff_lt-mul pos).1 (rw mul_comm (rw pow-add at h)) in
    put-take fs (split fs (w / n)) f.value n (w % n) hk (mod-lt w pos)
    ∙ ap (λ (k : ℕ). w % n + n * k) (join-split fs (w / n) (other-fields f fs t) below)
    ∙ mod-add-div w n

-- the values that fields can hold: each below 2 to its bits
unfoldable pub Held : List Field → List ℕ → Type 0
Held fs vs = (k : ℕ) → k < 6 → get_or vs k 0 < 2 ^ bits_for k fs

module _ (f : Field) (fs : List Field) (vs : List ℕ) (len : length vs ≡ 6) (hk : f.value < 6) (h : Held (f ∷ fs) vs) where
  next-case : (k : ℕ) → k < 6 → (b : Bool) → eqb k f.value ≡ b → get_or (set vs f.value (get_or vs f.value 0 / 2 ^ f.bits)) k 0 < 2 ^ bits_for k fs
  unfolding Held
  next-case k lt true e =
      let q : k ≡ f.value = eqb-true k f.value e in
      let hv : f.value < length vs = omega arith in
      let same = get_or-set_same vs f.value (get_or vs f.value 0 / 2 ^ f.bits) 0 hv in
      let at-k : get_or (set vs f.value (get_or vs f.value 0 / 2 ^ f.bits)) k 0 ≡ get_or vs k 0 / 2 ^ f.bits = cc in
      rw at-k ((div-lt_iff_lt-mul (pow_pos f.bits)).1 (rw mul_comm (rw (e, pow-add) at (h k lt))))
  next-case k lt false e = rw (get_or-set_other vs f.value k (get_or vs f.value 0 / 2 ^ f.bits) 0 (eqb-false k f.value e)) (rw (e, zero-add) at (h k lt))

  held_next : Held fs (set vs f.value (get_or vs f.value 0 / 2 ^ f.bits))
  unfolding Held
  held_next k lt = next-case k lt (eqb k f.value) refl

-- a word's values are such values
module _ (f : Field) (fs : List Field) (w : ℕ) (t : T (are_fields (f ∷ fs))) (h : Held fs (split fs (w / 2 ^ f.bits))) where
  split-case : (k : ℕ) → k < 6 → (b : Bool) → eqb k f.value ≡ b → get_or (split (f ∷ fs) w) k 0 < 2 ^ bits_for k (f ∷ fs)
  unfolding Held
  split-case k lt true e =
      let n = 2 ^ f.bits in
      let r = split fs (w / n) in
      let q : k ≡ f.value = eqb-true k f.value e in
      let hk : f.value < length r = omega (arith, length-split fs (w / n), first_field f fs t) in
      let same = get_or-set_same r f.value (w % n + n * get_or r f.value 0) 0 hk in
      let here : get_or (set r f.value (w % n + n * get_or r f.value 0)) k 0 ≡ w % n + n * get_or r k 0 = cc in
      rw (here, e, pow-add) (digit_lt (mod-lt w (pow_pos f.bits)) (h k lt))
  split-case k lt false e =
      let n = 2 ^ f.bits in
      let r = split fs (w / n) in
      rw (get_or-set_other r f.value k (w % n + n * get_or r f.value 0) 0 (eqb-false k f.value e), e, zero-add) (h k lt)

pub split-held : (fs : List Field) (w : ℕ) → T (are_fields fs) → Held fs (split fs w)
unfolding Held
split-held [] w t k lt = rw (get_or-replicate {A = ℕ} 6 k 0 0 lt) (omega arith)
split-held (f ∷ fs) w t k lt = split-case f fs w t (split-held fs (w / 2 ^ f.bits) (other-fields f fs t)) k lt (eqb k f.value) refl

below_one : (n : ℕ) → n < 1 → n ≡ 0
below_one n h = omega arith

-- writing values, then reading them
pub split-join : (fs : List Field) (vs : List ℕ) → length vs ≡ 6 → T (are_fields fs) → Held fs vs → split fs (join fs vs) ≡ vs
unfolding Held
split-join [] vs len t h =
    ext_get_or 0 (replicate 6 0) vs (sym len) (λ i lt. get_or-replicate 6 i 0 0 lt ∙ sym (below_one (get_or vs i 0) (h i lt)))
split-join (f ∷ fs) vs len t h =
    let n = 2 ^ f.bits in
    let x = get_or vs f.value 0 in
    let k = f.value in
    let low = mod-lt x (pow_pos f.bits) in
    let hk : k < length vs = omega (arith, first_field f fs t) in
    let ih = split-join fs (set vs k (x / n)) (length-set vs k (x / n) ∙ len) (other-fields f fs t) (held_next f fs vs len (first_field f fs t) h) in
    rw (digit-div (x % n) (join fs (set vs k (x / n))) n low, digit-mod (x % n) (join fs (set vs k (x / n))) n low, ih, get_or-set_same vs k (x / n) 0 hk, mod-add-div x n, set-set, set-get_or)

-- the round trips through bytes, where the fields fill them
module _ (fs : List Field) (n : ℕ) (most : Bool) (t : T (are_fields fs)) (full : 2 ^ bits_of fs ≡ 256 ^ n) where
  pub values-back : (vs : List ℕ) → length vs ≡ 6 → Held fs vs → split fs (word_of most (bytes_of n most (join fs vs))) ≡ vs
  values-back vs len held =
      ap (λ (w : ℕ). split fs w) (word_bytes n most (join fs vs) (rw full at (join-lt fs vs))) ∙ split-join fs vs len t held

  pub bytes_back : (bs : List ℕ) → T (are_bytes bs) → length bs ≡ n → bytes_of n most (join fs (split fs (word_of most bs))) ≡ bs
  bytes_back bs b size =
      let small : word_of most bs < 2 ^ bits_of fs = rw (full, ← size) (word_lt most bs b) in
      rw (join-split fs (word_of most bs) t small, ← size) (bytes_word most bs b)

-- A word with its unused bits 0: it holds the same values, and nothing in those bits.
abbrev pub cleared : List Field → ℕ → ℕ
cleared fs w = join fs (set (split fs w) 5 0)

module _ (fs : List Field) (w : ℕ) (t : T (are_fields fs)) where
  cleared-case : (k : ℕ) → k < 6 → (b : Bool) → eqb k 5 ≡ b → get_or (set (split fs w) 5 0) k 0 < 2 ^ bits_for k fs
  unfolding Held
  cleared-case k lt true e =
      let inside : 5 < length (split fs w) = omega (arith, length-split fs w) in
      rw (eqb-true k 5 e, get_or-set_same (split fs w) 5 0 0 inside) (pow_pos (bits_for 5 fs))
  cleared-case k lt false e = rw (get_or-set_other (split fs w) 5 k 0 0 (eqb-false k 5 e)) (split-held fs w t k lt)

  cleared-held : Held fs (set (split fs w) 5 0)
  unfolding Held
  cleared-held k lt = cleared-case k lt (eqb k 5) refl

  pub split-cleared : split fs (cleared fs w) ≡ set (split fs w) 5 0
  split-cleared =
      split-join fs (set (split fs w) 5 0) (length-set (split fs w) 5 0 ∙ length-split fs w) t cleared-held
