-- Packing: what passed checks say, and that the words which the code makes are document 01's.
-- Assumes nothing.
use mathlib.Core.Path.{◌≡◌, refl, sym, ap}
use mathlib.Core.Bool.{Bool, true, false, cond, ◌||◌}
use mathlib.Core.List.{List, [], ◌∷◌}
use Prim.Native.Nat.{ℕ, zero, suc, ◌+◌, ◌*◌, ◌-◌, ◌/◌, ◌^◌, ◌<◌, ◌≤◌}
use native.Mathlib.Omega.{arith}
use lib.Dec.{eqb, ltb, eqb→eq}
use lib.ListN.{length, get_or}
use lib.Pow.{pow_pos}
use borrow.Author.Tests.{ltb-false, lt-ltb, eqb-true, not-false}
use Rattle.words.specs.Bytes.{bytes_of}
use Rattle.words.specs.Fields.{Field, join}
use Rattle.words.specs.Inner.{bits_for, all}
use Rattle.words.specs.Loops.{each, some}
use Rattle.words.proofs.Answers.{all-passed, not-given}
use Rattle.words.proofs.Bytes.{length-bytes}
use Rattle.words.proofs.Fields.{Held}
use Rattle.words.proofs.Loops.{all-at, length-each}
use Rattle.mode.specs.Table.{row}
use Rattle.color.specs.Color.{coloring, above, packable, packed_size, pack_says, pack_checks, values_of, four_values, bytes_with, packed}
use Rattle.color.specs.Inner.{color_word, four_word, color_bytes, AllWithin}
use Rattle.color.specs.declared.color_places.ColorPlaces.{ColorPlaces}
use Rattle.words.proofs.Items.{neither_left, neither_right, none-at, each-eq}
use Rattle.color.proofs.Places.{has, joined}

-- what a component that is not above the top is
module _ (top : ℕ) (cs : List ℕ) (i : ℕ) (low : above top cs i ≡ false) where
  others : (ltb top (get_or cs (4 * i + 1) 0) || ltb top (get_or cs (4 * i + 2) 0)) ≡ false
  others = neither_right (ltb top (get_or cs (4 * i) 0)) (ltb top (get_or cs (4 * i + 1) 0) || ltb top (get_or cs (4 * i + 2) 0)) low

  pub red-low : get_or cs (4 * i) 0 ≤ top
  red-low = ltb-false top _ (neither_left (ltb top (get_or cs (4 * i) 0)) (ltb top (get_or cs (4 * i + 1) 0) || ltb top (get_or cs (4 * i + 2) 0)) low)

  pub green-low : get_or cs (4 * i + 1) 0 ≤ top
  green-low = ltb-false top _ (neither_left (ltb top (get_or cs (4 * i + 1) 0)) (ltb top (get_or cs (4 * i + 2) 0)) others)

  pub blue-low : get_or cs (4 * i + 2) 0 ≤ top
  blue-low = ltb-false top _ (neither_right (ltb top (get_or cs (4 * i + 1) 0)) (ltb top (get_or cs (4 * i + 2) 0)) others)

-- the bits of each hold every number up to the top
pub width : (m : ℕ) → m < 16 → (k : ℕ) → k < 5 → 2 ^ bits_for k (coloring m).fields ≡ cond (has (coloring m) k) ((row m).top + 1) 1
unfolding coloring row
width m h k lt =
    eqb→eq (2 ^ bits_for k (coloring m).fields) (cond (has (coloring m) k) ((row m).top + 1) 1)
    (all-at 5 (λ j. eqb (2 ^ bits_for j (coloring m).fields) (cond (has (coloring m) j) ((row m).top + 1) 1))
    (all-at 16 (λ i. all 5 (λ j. eqb (2 ^ bits_for j (coloring i).fields) (cond (has (coloring i) j) ((row i).top + 1) 1))) tt m h) k lt)

held : (fs : List Field) (a b c d : ℕ) → a < 2 ^ bits_for 0 fs → b < 2 ^ bits_for 1 fs → c < 2 ^ bits_for 2 fs → d < 2 ^ bits_for 3 fs → Held fs (a ∷ b ∷ c ∷ d ∷ 0 ∷ 0 ∷ [])
unfolding Held
held fs a b c d ha hb hc hd zero lt = ha
held fs a b c d ha hb hc hd (suc zero) lt = hb
held fs a b c d ha hb hc hd (suc (suc zero)) lt = hc
held fs a b c d ha hb hc hd (suc (suc (suc zero))) lt = hd
held fs a b c d ha hb hc hd (suc (suc (suc (suc zero)))) lt = pow_pos (bits_for 4 fs)
held fs a b c d ha hb hc hd (suc (suc (suc (suc (suc zero))))) lt = pow_pos (bits_for 5 fs)
held fs a b c d ha hb hc hd (suc (suc (suc (suc (suc (suc k)))))) lt = omega arith

-- a word for each colour, and one word for four
pub packed-one : (m : ℕ) (cs : List ℕ) → (coloring m).four ≡ false → packed m cs ≡ each (length cs / 4) (λ i. bytes_with m (values_of m cs i))
unfolding packed
packed-one m cs one = rw one

pub packed_all : (m : ℕ) (cs : List ℕ) → (coloring m).four ≡ true → packed m cs ≡ bytes_with m (four_values m cs)
unfolding packed
packed_all m cs many = rw many

module _ (m : ℕ) (h : m < 16) (cs : List ℕ) where
  -- colours that are not above the top are values that the fields hold
  module _ (one : (coloring m).four ≡ false) (i : ℕ) (low : above (row m).top cs i ≡ false) where
    values-case : (b : Bool) → (coloring m).gray ≡ b → Held (coloring m).fields (values_of m cs i)
    values-case true e =
        rw e
        (held (coloring m).fields ((row m).top - get_or cs (4 * i) 0) 0 0 0 (rw (width m h 0 (omega arith), one, e) (omega arith)) (pow_pos (bits_for 1 (coloring m).fields)) (pow_pos (bits_for 2 (coloring m).fields)) (pow_pos (bits_for 3 (coloring m).fields)))
    values-case false e =
        rw e
        (held (coloring m).fields (get_or cs (4 * i) 0) (get_or cs (4 * i + 1) 0) (get_or cs (4 * i + 2) 0) 0 (rw (width m h 0 (omega arith), one, e) (omega (arith, red-low (row m).top cs i low))) (rw (width m h 1 (omega arith), one, e) (omega (arith, green-low (row m).top cs i low))) (rw (width m h 2 (omega arith), one, e) (omega (arith, blue-low (row m).top cs i low))) (pow_pos (bits_for 3 (coloring m).fields)))

    pub values-held : Held (coloring m).fields (values_of m cs i)
    values-held = values-case (coloring m).gray refl

  -- so are four
  module _ (many : (coloring m).four ≡ true) where
    four-width : (k : ℕ) → k < 4 → (r : ℕ) → (row m).top - r < 2 ^ bits_for k (coloring m).fields
    four-width k lt r = rw (width m h k (omega arith), many, lt-ltb k 4 lt) (omega arith)

    pub four-held : Held (coloring m).fields (four_values m cs)
    four-held =
        held (coloring m).fields ((row m).top - get_or cs 0 0) ((row m).top - get_or cs 4 0) ((row m).top - get_or cs 8 0) ((row m).top - get_or cs 12 0)
        (four-width 0 (omega arith) (get_or cs 0 0)) (four-width 1 (omega arith) (get_or cs 4 0)) (four-width 2 (omega arith) (get_or cs 8 0)) (four-width 3 (omega arith) (get_or cs 12 0))

-- the words of the code's places
module _ (l : ColorPlaces) (cs : List ℕ) where
  word-case : (i : ℕ) → (coloring l.mode).four ≡ false → above (row l.mode).top cs i ≡ false → (b : Bool) → (coloring l.mode).gray ≡ b → color_word l cs i ≡ join (coloring l.mode).fields (values_of l.mode cs i)
  word-case i one low true e =
      rw (l.gray_is, l.top_is, e)
      (joined l ((row l.mode).top - get_or cs (4 * i) 0) 0 0 0 (rw e at (values-held l.mode l.is_mode cs one i low)))
  word-case i one low false e =
      rw (l.gray_is, e)
      (joined l (get_or cs (4 * i) 0) (get_or cs (4 * i + 1) 0) (get_or cs (4 * i + 2) 0) 0 (rw e at (values-held l.mode l.is_mode cs one i low)))

  pub packs-words : l.four ≡ false → some (length cs / 4) (above l.top cs) ≡ false → each (length cs / 4) (color_bytes l cs) ≡ packed l.mode cs
  packs-words single none =
      let m = l.mode in
      let one = rw l.four_is at single in
      let low = rw l.top_is at none in
      rw (packed-one m cs one)
      (each-eq (length cs / 4) (color_bytes l cs) (λ i. bytes_with m (values_of m cs i))
      (λ i lt. rw (l.size_is, l.most_is) (ap (λ (w : ℕ). bytes_of (coloring m).size (coloring m).most w) (word-case i one (none-at (length cs / 4) (above (row m).top cs) low i lt) (coloring m).gray refl))))

  pub packs-four : l.four ≡ true → bytes_of l.size l.most (four_word l cs) ≡ packed l.mode cs
  packs-four all =
      let m = l.mode in
      let many = rw l.four_is at all in
      rw (packed_all m cs many, l.size_is, l.most_is, l.top_is)
      (ap (λ (w : ℕ). bytes_of (coloring m).size (coloring m).most w) (joined l ((row m).top - get_or cs 0 0) ((row m).top - get_or cs 4 0) ((row m).top - get_or cs 8 0) ((row m).top - get_or cs 12 0) (four-held m l.is_mode cs many)))

-- how many bytes there are
length-case : (m : ℕ) (cs : List ℕ) (b : Bool) → (coloring m).four ≡ b → length (packed m cs) ≡ packed_size (coloring m).four (coloring m).size (length cs)
length-case m cs true e = rw (packed_all m cs e, e) (length-bytes (coloring m).size (coloring m).most (join (coloring m).fields (four_values m cs)))
length-case m cs false e =
    rw (packed-one m cs e, e) (length-each (length cs / 4) (coloring m).size (λ i. bytes_with m (values_of m cs i)) (λ i. length-bytes (coloring m).size (coloring m).most (join (coloring m).fields (values_of m cs i))))

pub length-packed : (m : ℕ) (cs : List ℕ) → length (packed m cs) ≡ packed_size (coloring m).four (coloring m).size (length cs)
length-packed m cs = length-case m cs (coloring m).four refl

pub pack-no-mode : (m : ℕ) (cs : List ℕ) (space : ℕ) → 15 < m → pack_says m cs space ≡ 1
unfolding pack_says
pack-no-mode m cs space h = rw (lt-ltb 15 m h)

-- what no refusal says
pub record Packs (m : ℕ) (cs : List ℕ) (space : ℕ) : Type 0 where
  pub whole : packable (coloring m).four (length cs) ≡ true
  pub low : some (length cs / 4) (above (row m).top cs) ≡ false
  pub fits : packed_size (coloring m).four (coloring m).size (length cs) ≤ space

pub packs : (m : ℕ) (cs : List ℕ) (space : ℕ) → pack_says m cs space ≡ 0 → Packs m cs space
unfolding pack_says
packs m cs space e =
    let passed = all-passed (pack_checks m cs space) e in
    record {
      whole = not-false _ (not-given 6 _ (passed 1));
      low = not-given 8 _ (passed 2);
      fits = ltb-false _ _ (not-given 10 _ (passed 3));
    }

module _ (l : ColorPlaces) (cs : List ℕ) where
  -- so the colours of a word of four are there, and so are all
  pub four-within : (space : ℕ) → Packs l.mode cs space → l.four ≡ true → AllWithin l.top cs 4
  four-within space p many =
      let all : length cs ≡ 16 = eqb-true (length cs) 16 (rw (← l.four_is, many) at p.whole) in
      record { there = omega arith; low = rw (← l.top_is, all) at p.low }

  pub words-within : (space : ℕ) → Packs l.mode cs space → AllWithin l.top cs (length cs / 4)
  words-within space p = record { there = omega arith; low = rw (← l.top_is) at p.low }

  pub packs-size : packed_size l.four l.size (length cs) ≡ length (packed l.mode cs)
  packs-size = rw (l.four_is, l.size_is) (sym (length-packed l.mode cs))
