-- The round trips of colours, by the laws of words made of fields: what is packed is read again, and what is read is packed again.
-- Assumes nothing.
use mathlib.Core.Path.{◌≡◌, refl, sym, ap, ◌∙◌}
use mathlib.Core.Bool.{Bool, true, false, not, cond, ◌&&◌}
use mathlib.Core.List.{List, [], ◌∷◌}
use Prim.Native.Nat.{ℕ, zero, suc, ◌+◌, ◌*◌, ◌-◌, ◌/◌, ◌%◌, ◌^◌, ◌<◌, ◌≤◌}
use native.Mathlib.Nat.{zero-mul, mul-div_cancel, div_self}
use native.Mathlib.Omega.{arith}
use lib.Dec.{T, ltb, eqb, ltb→lt, eqb→eq}
use lib.ListN.{length, get_or, take, drop, length-drop, drop_of_length-le}
use lib.Seq.{take_all, drop-cons, length-take-le}
use borrow.Author.Tests.{ltb-true, ltb-false, eqb-true, eqb-false, eq-eqb, ne_eqb}
use Rattle.words.specs.Bytes.{word_of, are_bytes}
use Rattle.words.specs.Fields.{join}
use Rattle.words.specs.Inner.{bits_of, are_fields}
use Rattle.words.proofs.Bytes.{length-bytes, bytes_take, bytes_drop}
use Rattle.words.proofs.Fields.{Held, length-split, split-held, values-back, bytes_back}
use Rattle.words.proofs.Loops.{all-at}
use Rattle.mode.specs.Table.{row, ngp}
use Rattle.mode.proofs.ByMode.{by_mode}
use Rattle.color.specs.Color.{Returning, coloring, above, packable, pack_says, values_of, four_values, bytes_with, packed, unpackable, color_count, unpack_says, values_in, shade, color_with, four_with, unpacked}
use Rattle.words.proofs.Items.{none-at, each-eq, item-inside, item-at, item-get_or, whole_parts}
use Rattle.color.proofs.Places.{has}
use Rattle.color.proofs.Packing.{Packs, pack-no-mode, width, red-low, values-held, four-held, packed-one, packed_all, length-packed}
use Rattle.color.proofs.Unpacking.{unpack-no-mode, unpacked-one, unpacked-all, length-color, length-unpacked}

-- ---- the fields of each mode

module _ (m : ℕ) (h : m < 16) where
  fields-right : T (are_fields (coloring m).fields)
  unfolding coloring
  fields-right = all-at 16 (λ k. are_fields (coloring k).fields) tt m h

  -- they fill the bytes
  fields-full : 2 ^ bits_of (coloring m).fields ≡ 256 ^ (coloring m).size
  unfolding coloring
  fields-full =
      eqb→eq (2 ^ bits_of (coloring m).fields) (256 ^ (coloring m).size) (all-at 16 (λ k. eqb (2 ^ bits_of (coloring k).fields) (256 ^ (coloring k).size)) tt m h)

  size-some : 0 < (coloring m).size
  unfolding coloring
  size-some = ltb→lt 0 (coloring m).size (all-at 16 (λ k. ltb 0 (coloring k).size) tt m h)

is_true : (b : Bool) → T b → b ≡ true
is_true true t = refl
is_true false t = absurd t

-- words of four have grays
four-gray : (m : ℕ) → m < 16 → (coloring m).four ≡ true → (coloring m).gray ≡ true
unfolding coloring
four-gray m h e = is_true (coloring m).gray (rw e at (all-at 16 (λ k. cond (coloring k).four (coloring k).gray true) tt m h))

-- ---- colours return

-- colour i of a list, byte by byte
color-at : (cs : List ℕ) (i : ℕ) → 4 * i + 3 < length cs
    → take 4 (drop (i * 4) cs) ≡ get_or cs (4 * i) 0 ∷ get_or cs (4 * i + 1) 0 ∷ get_or cs (4 * i + 2) 0 ∷ get_or cs (4 * i + 3) 0 ∷ []
color-at cs i h =
    let start : i * 4 ≡ 4 * i = omega arith in
    let one : 4 * i + 1 ≡ suc (4 * i) = omega arith in
    let two : 4 * i + 2 ≡ suc (suc (4 * i)) = omega arith in
    let three : 4 * i + 3 ≡ suc (suc (suc (4 * i))) = omega arith in
    let h0 : 4 * i < length cs = omega arith in
    let h1 : suc (4 * i) < length cs = omega arith in
    let h2 : suc (suc (4 * i)) < length cs = omega arith in
    let h3 : suc (suc (suc (4 * i))) < length cs = omega arith in
    rw (start, one, two, three, drop-cons cs (4 * i) 0 h0, drop-cons cs (suc (4 * i)) 0 h1, drop-cons cs (suc (suc (4 * i))) 0 h2, drop-cons cs (suc (suc (suc (4 * i)))) 0 h3)

values-case : (m : ℕ) (cs : List ℕ) (i : ℕ) (b : Bool) → (coloring m).gray ≡ b → length (values_of m cs i) ≡ 6
values-case m cs i true e = rw e
values-case m cs i false e = rw e

gray-at : (m : ℕ) (cs : List ℕ) (i : ℕ) → i < 4 → get_or (four_values m cs) i 0 ≡ (row m).top - get_or cs (4 * i) 0
gray-at m cs zero lt = refl
gray-at m cs (suc zero) lt = refl
gray-at m cs (suc (suc zero)) lt = refl
gray-at m cs (suc (suc (suc zero))) lt = refl
gray-at m cs (suc (suc (suc (suc i)))) lt = omega arith

module _ (m : ℕ) (h : m < 16) (cs : List ℕ) (space : ℕ) (p : Packs m cs space) (r : Returning m cs) where
  module _ (i : ℕ) (lt : i < length cs / 4) where
    red : get_or cs (4 * i) 0 ≤ (row m).top
    red = red-low (row m).top cs i (none-at (length cs / 4) (above (row m).top cs) p.low i lt)

    -- a gray that was packed, and a colour
    shade-back : (coloring m).gray ≡ true → shade m ((row m).top - get_or cs (4 * i) 0) ≡ take 4 (drop (i * 4) cs)
    shade-back e =
        let back : (row m).top - ((row m).top - get_or cs (4 * i) 0) ≡ get_or cs (4 * i) 0 = omega (arith, red) in
        rw (color-at cs i (omega arith), back, r.alpha i lt, (r.same e i lt).0, (r.same e i lt).1)

    color-case : (b : Bool) → (coloring m).gray ≡ b → color_with m (values_of m cs i) ≡ take 4 (drop (i * 4) cs)
    color-case true e = rw e (shade-back e)
    color-case false e = rw (e, color-at cs i (omega arith), r.alpha i lt)

    values-again : (coloring m).four ≡ false → values_in m (packed m cs) i ≡ values_of m cs i
    values-again one =
        rw (packed-one m cs one, item-at (coloring m).size (λ k. bytes_with m (values_of m cs k)) (λ k. length-bytes (coloring m).size (coloring m).most (join (coloring m).fields (values_of m cs k))) (length cs / 4) i lt)
        (values-back (coloring m).fields (coloring m).size (coloring m).most (fields-right m h) (fields-full m h) (values_of m cs i) (values-case m cs i (coloring m).gray refl) (values-held m h cs one i (none-at (length cs / 4) (above (row m).top cs) p.low i lt)))

  back-words : (coloring m).four ≡ false → unpacked m (packed m cs) ≡ cs
  back-words one =
      let n = length cs / 4 in
      let whole : length cs % 4 ≡ 0 = eqb-true (length cs % 4) 0 (rw one at p.whole) in
      let count : length (packed m cs) / (coloring m).size ≡ n = rw (length-packed m cs, one) (mul-div_cancel n (size-some m h)) in
      rw (unpacked-one m (packed m cs) one, count)
      (each-eq n (λ i. color_with m (values_in m (packed m cs) i)) (λ i. take 4 (drop (i * 4) cs)) (λ i lt. ap (λ (vs : List ℕ). color_with m vs) (values-again i lt one) ∙ color-case i lt (coloring m).gray refl)
      ∙ whole_parts 4 n cs (omega arith))

  back-four : (coloring m).four ≡ true → unpacked m (packed m cs) ≡ cs
  back-four many =
      let all : length cs ≡ 16 = eqb-true (length cs) 16 (rw many at p.whole) in
      let size : length (packed m cs) ≡ (coloring m).size = rw (length-packed m cs, many) in
      let first : values_in m (packed m cs) 0 ≡ four_values m cs =
      rw (zero-mul (coloring m).size, take_all (coloring m).size (packed m cs) (omega arith), packed_all m cs many)
      (values-back (coloring m).fields (coloring m).size (coloring m).most (fields-right m h) (fields-full m h) (four_values m cs) refl (four-held m h cs many)) in
      rw (unpacked-all m (packed m cs) many, first)
      (each-eq 4 (λ i. shade m (get_or (four_values m cs) i 0)) (λ i. take 4 (drop (i * 4) cs)) (λ i lt. ap (λ (v : ℕ). shade m v) (gray-at m cs i lt) ∙ shade-back i (omega arith) (four-gray m h many))
      ∙ whole_parts 4 4 cs all)

  pub back-case : (b : Bool) → (coloring m).four ≡ b → unpacked m (packed m cs) ≡ cs
  back-case true e = back-four e
  back-case false e = back-words e

-- a mode that is not refused is one of the sixteen
one-of-sixteen : (n m : ℕ) → (15 < m → n ≡ 1) → n ≡ 0 → (b : Bool) → ltb 15 m ≡ b → m < 16
one-of-sixteen n m wrong e true t =
    let never : ⊥ = omega (arith, wrong (ltb-true 15 m t)) in
    absurd never
one-of-sixteen n m wrong e false t = omega (arith, ltb-false 15 m t)

pub pack-mode : (m : ℕ) (cs : List ℕ) (space : ℕ) → pack_says m cs space ≡ 0 → m < 16
pack-mode m cs space e = one-of-sixteen (pack_says m cs space) m (pack-no-mode m cs space) e (ltb 15 m) refl

pub unpack-mode : (m len space : ℕ) → unpack_says m len space ≡ 0 → m < 16
unpack-mode m len space e = one-of-sixteen (unpack_says m len space) m (unpack-no-mode m len space) e (ltb 15 m) refl

-- ---- bytes return

-- six values, one by one
six : (vs : List ℕ) → length vs ≡ 6 → get_or vs 0 0 ∷ get_or vs 1 0 ∷ get_or vs 2 0 ∷ get_or vs 3 0 ∷ get_or vs 4 0 ∷ get_or vs 5 0 ∷ [] ≡ vs
six vs len =
    sym (rw (drop-cons vs 0 0 (omega arith), drop-cons vs 1 0 (omega arith), drop-cons vs 2 0 (omega arith), drop-cons vs 3 0 (omega arith), drop-cons vs 4 0 (omega arith), drop-cons vs 5 0 (omega arith), drop_of_length-le vs {i = 6} (omega arith)))

module _ (m : ℕ) (h : m < 16) (vs : List ℕ) (len : length vs ≡ 6) (held : Held (coloring m).fields vs) (clear : get_or vs 5 0 ≡ 0) where
  -- a value that the mode's words do not have
  absent : (k : ℕ) → k < 5 → has (coloring m) k ≡ false → get_or vs k 0 ≡ 0
  unfolding Held
  absent k lt e =
      let small : get_or vs k 0 < 1 = rw (width m h k lt, e) at (held k (omega arith)) in
      omega arith

  -- and one that they have
  turned : (k : ℕ) → k < 5 → has (coloring m) k ≡ true → (row m).top - ((row m).top - get_or vs k 0) ≡ get_or vs k 0
  unfolding Held
  turned k lt e =
      let small : get_or vs k 0 < (row m).top + 1 = rw (width m h k lt, e) at (held k (omega arith)) in
      omega arith

  gray-values : (coloring m).four ≡ false → (coloring m).gray ≡ true → ((row m).top - ((row m).top - get_or vs 0 0)) ∷ 0 ∷ 0 ∷ 0 ∷ 0 ∷ 0 ∷ [] ≡ vs
  gray-values one e =
      rw (turned 0 (omega arith) (rw (one, e)))
      (rw (absent 1 (omega arith) (rw (one, e)), absent 2 (omega arith) (rw (one, e)), absent 3 (omega arith) (rw (one, e)), absent 4 (omega arith) (rw (one, e)), clear) at (six vs len))

  color-values : (coloring m).four ≡ false → (coloring m).gray ≡ false → get_or vs 0 0 ∷ get_or vs 1 0 ∷ get_or vs 2 0 ∷ 0 ∷ 0 ∷ 0 ∷ [] ≡ vs
  color-values one e = rw (absent 3 (omega arith) (rw (one, e)), absent 4 (omega arith) (rw (one, e)), clear) at (six vs len)

  four-values : (coloring m).four ≡ true → four_values m (four_with m vs) ≡ vs
  four-values many =
      rw (turned 0 (omega arith) (rw many), turned 1 (omega arith) (rw many), turned 2 (omega arith) (rw many), turned 3 (omega arith) (rw many))
      (rw (absent 4 (omega arith) (rw many), clear) at (six vs len))

-- whole words
abbrev Whole : ℕ → Type 0
Whole m = (len : ℕ) → unpackable m len ≡ true → len ≡ len / (coloring m).size * (coloring m).size

two_bytes : Whole 0
unfolding coloring
two_bytes len e = omega (arith, eqb-true (len % 2) 0 e)

one_byte : Whole 7
unfolding coloring
one_byte len e = omega arith

whole-gb : Whole 2
unfolding coloring
whole-gb len e = omega arith

whole-ngp : Whole 11
unfolding coloring
whole-ngp len e = omega arith

whole-ws : Whole 13
unfolding coloring
whole-ws len e = omega (arith, eqb-true len 2 e)

whole_words : (m : ℕ) → m < 16 → Whole m
unfolding coloring
whole_words =
    by_mode Whole two_bytes two_bytes whole-gb two_bytes two_bytes two_bytes two_bytes one_byte two_bytes two_bytes two_bytes whole-ngp two_bytes whole-ws two_bytes two_bytes

module _ (m : ℕ) (h : m < 16) (bs : List ℕ) (whole : unpackable m (length bs) ≡ true) (b : T (are_bytes bs)) (clear : (i : ℕ) → i < length bs / (coloring m).size → get_or (values_in m bs i) 5 0 ≡ 0) where
  module _ (i : ℕ) (lt : i < length bs / (coloring m).size) where
    part-back : bytes_with m (values_in m bs i) ≡ take (coloring m).size (drop (i * (coloring m).size) bs)
    part-back =
        let size = (coloring m).size in
        let rest = drop (i * size) bs in
        let space : size ≤ length rest = omega (arith, length-drop (i * size) bs, item-inside size (length bs / size) i lt, whole_words m h (length bs) whole) in
        bytes_back (coloring m).fields size (coloring m).most (fields-right m h) (fields-full m h) (take size rest) (bytes_take size rest (bytes_drop (i * size) bs b)) (length-take-le size rest space)

    byte_at : (coloring m).four ≡ false → (j at : ℕ) → j < 4 → at ≡ i * 4 + j → get_or (unpacked m bs) at 0 ≡ get_or (color_with m (values_in m bs i)) j 0
    byte_at one j at small e =
        rw (unpacked-one m bs one, e) (item-get_or 4 (λ k. color_with m (values_in m bs k)) (λ k. length-color m (values_in m bs k)) (length bs / (coloring m).size) i lt j small)

    six-values : length (values_in m bs i) ≡ 6
    six-values = length-split (coloring m).fields (word_of (coloring m).most (take (coloring m).size (drop (i * (coloring m).size) bs)))

    held-values : Held (coloring m).fields (values_in m bs i)
    held-values = split-held (coloring m).fields (word_of (coloring m).most (take (coloring m).size (drop (i * (coloring m).size) bs))) (fields-right m h)

    again-case : (coloring m).four ≡ false → (g : Bool) → (coloring m).gray ≡ g → values_of m (unpacked m bs) i ≡ values_in m bs i
    again-case one true e =
        let r : get_or (unpacked m bs) (4 * i) 0 ≡ (row m).top - get_or (values_in m bs i) 0 0 = byte_at one 0 (4 * i) (omega arith) (omega arith) ∙ rw e in
        rw (e, r) (gray-values m h (values_in m bs i) six-values held-values (clear i lt) one e)
    again-case one false e =
        let r : get_or (unpacked m bs) (4 * i) 0 ≡ get_or (values_in m bs i) 0 0 = byte_at one 0 (4 * i) (omega arith) (omega arith) ∙ rw e in
        let g : get_or (unpacked m bs) (4 * i + 1) 0 ≡ get_or (values_in m bs i) 1 0 = byte_at one 1 (4 * i + 1) (omega arith) (omega arith) ∙ rw e in
        let u : get_or (unpacked m bs) (4 * i + 2) 0 ≡ get_or (values_in m bs i) 2 0 = byte_at one 2 (4 * i + 2) (omega arith) (omega arith) ∙ rw e in
        rw (e, r, g, u) (color-values m h (values_in m bs i) six-values held-values (clear i lt) one e)

  again-words : (coloring m).four ≡ false → packed m (unpacked m bs) ≡ bs
  again-words one =
      let n = length bs / (coloring m).size in
      let count : length (unpacked m bs) / 4 ≡ n = rw (length-unpacked m bs, one) (omega arith) in
      rw (packed-one m (unpacked m bs) one, count)
      (each-eq n (λ i. bytes_with m (values_of m (unpacked m bs) i)) (λ i. take (coloring m).size (drop (i * (coloring m).size) bs)) (λ i lt. ap (λ (vs : List ℕ). bytes_with m vs) (again-case i lt one (coloring m).gray refl) ∙ part-back i lt)
      ∙ whole_parts (coloring m).size n bs (whole_words m h (length bs) whole))

  again-four : (coloring m).four ≡ true → packed m (unpacked m bs) ≡ bs
  again-four many =
      let size : length bs ≡ (coloring m).size = eqb-true (length bs) (coloring m).size (rw many at whole) in
      let one_word : 0 < length bs / (coloring m).size = rw (size, div_self (size-some m h)) (omega arith) in
      rw (packed_all m (unpacked m bs) many, unpacked-all m bs many, four-values m h (values_in m bs 0) (six-values 0 one_word) (held-values 0 one_word) (clear 0 one_word) many)
      (part-back 0 one_word ∙ rw (zero-mul (coloring m).size) (take_all (coloring m).size bs (omega arith)))

  pub again-either : (c : Bool) → (coloring m).four ≡ c → packed m (unpacked m bs) ≡ bs
  again-either true e = again-four e
  again-either false e = again-words e

-- ---- unpacking what was packed

-- as many bytes as four a colour
module _ (m : ℕ) (h : m < 16) (cs : List ℕ) (space : ℕ) (p : Packs m cs space) where
  pub count-case : (b : Bool) → (coloring m).four ≡ b → 4 * color_count (coloring m).four (coloring m).size (length (packed m cs)) ≡ length cs
  count-case true e = rw e (sym (eqb-true (length cs) 16 (rw e at p.whole)))
  count-case false e =
      let whole : length cs % 4 ≡ 0 = eqb-true (length cs % 4) 0 (rw e at p.whole) in
      let count : length (packed m cs) / (coloring m).size ≡ length cs / 4 = rw (length-packed m cs, e) (mul-div_cancel (length cs / 4) (size-some m h)) in
      rw (e, count) (omega arith)

-- unpacking takes the packed bytes of every mode but ngp, and of ngp those of four colours
abbrev Accepted : ℕ → Type 0
Accepted m =
    (len : ℕ) → packable (coloring m).four len ≡ true
    → not (unpackable m (cond (coloring m).four (coloring m).size (len / 4 * (coloring m).size))) ≡ (eqb m ngp && not (eqb len 16))

accepted-two : Accepted 0
unfolding coloring
accepted-two len e =
    let whole : len / 4 * 2 % 2 ≡ 0 = omega arith in
    rw (eq-eqb (len / 4 * 2 % 2) 0 whole)

accepted-one : Accepted 7
unfolding coloring
accepted-one len e =
    let whole : len / 4 * 1 % 1 ≡ 0 = omega arith in
    rw (eq-eqb (len / 4 * 1 % 1) 0 whole)

accepted-case : (len : ℕ) → len % 4 ≡ 0 → (b : Bool) → eqb len 16 ≡ b → not (eqb (len / 4 * 1) 4) ≡ not (eqb len 16)
accepted-case len e true t =
    let four : len / 4 * 1 ≡ 4 = omega (arith, eqb-true len 16 t) in
    rw (t, eq-eqb (len / 4 * 1) 4 four)
accepted-case len e false t =
    let other : len / 4 * 1 ≡ 4 → ⊥ = λ q. eqb-false len 16 t (omega arith) in
    rw (t, ne_eqb (len / 4 * 1) 4 other)

accepted-ngp : Accepted 11
unfolding coloring
accepted-ngp len e = accepted-case len (eqb-true (len % 4) 0 e) (eqb len 16) refl

pub accepted : (m : ℕ) → m < 16 → Accepted m
unfolding coloring
accepted =
    by_mode Accepted accepted-two accepted-two (λ len e. refl) accepted-two accepted-two accepted-two accepted-two accepted-one accepted-two accepted-two accepted-two accepted-ngp accepted-two (λ len e. refl) accepted-two accepted-two
