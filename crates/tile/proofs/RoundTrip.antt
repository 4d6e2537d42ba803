-- What is packed comes back, and what is unpacked packs again: one theorem, over the two sides of any layout that pass a computed test.
-- Assumes nothing.
use mathlib.Core.Path.{◌≡◌, sym, ap, ap₂, ◌∙◌, subst}
use mathlib.Core.Bool.{Bool, ◌&&◌}
use mathlib.Core.List.{List}
use Prim.Native.Nat.{ℕ, ◌%◌, ◌^◌, ◌<◌}
use native.Mathlib.Nat.{zero-add, div-one, mod-eq_of_lt}
use native.Mathlib.Omega.{arith}
use lib.Dec.{T, ltb, eqb, ltb→lt, eqb→eq}
use lib.ListN.{length, get_or}
use lib.Seq.{ext_get_or}
use Rattle.words.specs.Inner.{all}
use Rattle.words.proofs.Loops.{both_left, both_right, all-at}
use Rattle.tile.specs.Bits.{bit_of}
use Rattle.tile.specs.Layout.{Side, Layout, element, spread}
use Rattle.tile.proofs.Bits.{bit-lt, bits-lt, bits-same, bits_of, bit-of-bits}
use Rattle.tile.proofs.Filling.{length-table, get_or-table}

-- the test: bit j of number k of s goes to a bit of t that comes back to it
abbrev pub returns : Side → Side → ℕ → ℕ → Bool
returns s t k j =
    (ltb (s.from k j) t.count && ltb (s.place k j) t.bits)
    && (eqb (t.from (s.from k j) (s.place k j)) k && eqb (t.place (s.from k j) (s.place k j)) j)

abbrev pub all_return : Side → Side → Bool
all_return s t = all s.count (λ k. all s.bits (returns s t k))

abbrev pub is_layout : Layout → Bool
is_layout l = all_return l.pixels l.bytes && all_return l.bytes l.pixels

-- what it says at each place
pub record Returns (s t : Side) (k j : ℕ) : Type 0 where
  pub within : s.from k j < t.count
  pub bit-within : s.place k j < t.bits
  pub back : t.from (s.from k j) (s.place k j) ≡ k
  pub bit-back : t.place (s.from k j) (s.place k j) ≡ j

returns_of : (s t : Side) → T (all_return s t) → (k j : ℕ) → k < s.count → j < s.bits → Returns s t k j
returns_of s t h k j lk lj =
    let f = s.from k j in
    let b = s.place k j in
    let here : T (returns s t k j) = all-at s.bits (returns s t k) (all-at s.count (λ k. all s.bits (returns s t k)) h k lk) j lj in
    let in-range = both_left (ltb f t.count && ltb b t.bits) (eqb (t.from f b) k && eqb (t.place f b) j) here in
    let same = both_right (ltb f t.count && ltb b t.bits) (eqb (t.from f b) k && eqb (t.place f b) j) here in
    record {
      within = ltb→lt f t.count (both_left (ltb f t.count) (ltb b t.bits) in-range);
      bit-within = ltb→lt b t.bits (both_right (ltb f t.count) (ltb b t.bits) in-range);
      back = eqb→eq (t.from f b) k (both_left (eqb (t.from f b) k) (eqb (t.place f b) j) same);
      bit-back = eqb→eq (t.place f b) j (both_right (eqb (t.from f b) k) (eqb (t.place f b) j) same);
    }

module _ (l : Layout) (t : T (is_layout l)) where
  pub from-pixels : (k j : ℕ) → k < l.pixels.count → j < l.pixels.bits → Returns l.pixels l.bytes k j
  from-pixels = returns_of l.pixels l.bytes (both_left (all_return l.pixels l.bytes) (all_return l.bytes l.pixels) t)

  pub from_bytes : (k j : ℕ) → k < l.bytes.count → j < l.bytes.bits → Returns l.bytes l.pixels k j
  from_bytes = returns_of l.bytes l.pixels (both_right (all_return l.pixels l.bytes) (all_return l.bytes l.pixels) t)

pub length-spread : (s : Side) (xs : List ℕ) → length (spread s xs) ≡ s.count
unfolding spread
length-spread s xs = length-table s.count 0 (element s xs)

pub get_or-spread : (s : Side) (xs : List ℕ) (k : ℕ) → k < s.count → get_or (spread s xs) k 0 ≡ element s xs k
unfolding spread
get_or-spread s xs k l = get_or-table s.count 0 k (element s xs) l ∙ ap (element s xs) (zero-add k)

-- each number of a side has no more than its bits
pub spread-lt : (s : Side) (xs : List ℕ) (k : ℕ) → k < s.count → get_or (spread s xs) k 0 < 2 ^ s.bits
spread-lt s xs k l =
    rw (get_or-spread s xs k l) (bits-lt s.bits 0 (λ j. bit_of (s.place k j) (get_or xs (s.from k j) 0)) (λ j. bit-lt (s.place k j) (get_or xs (s.from k j) 0)))

module _ (s t : Side) (back : (k j : ℕ) → k < s.count → j < s.bits → Returns s t k j) (xs : List ℕ) where
  -- one bit
  one_bit : (k j : ℕ) → k < s.count → j < s.bits → bit_of (s.place k j) (get_or (spread t xs) (s.from k j) 0) ≡ bit_of j (get_or xs k 0)
  one_bit k j lk lj =
      let r = back k j lk lj in
      let f = s.from k j in
      let b = s.place k j in
      ap (bit_of b) (get_or-spread t xs f r.within)
      ∙ bit-of-bits t.bits 0 b (λ j. bit_of (t.place f j) (get_or xs (t.from f j) 0)) (λ j. bit-lt (t.place f j) (get_or xs (t.from f j) 0)) r.bit-within
      ∙ ap (λ (q : ℕ). bit_of (t.place f q) (get_or xs (t.from f q) 0)) (zero-add b)
      ∙ ap₂ (λ (p i : ℕ). bit_of p (get_or xs i 0)) r.bit-back r.back

  pub there_and_back : length xs ≡ s.count → ((k : ℕ) → k < s.count → get_or xs k 0 < 2 ^ s.bits) → spread s (spread t xs) ≡ xs
  there_and_back len small =
      ext_get_or 0 (spread s (spread t xs)) xs (length-spread s (spread t xs) ∙ sym len)
      (λ k l. let lk : k < s.count = subst (λ (n : ℕ). k < n) (length-spread s (spread t xs)) l in
      get_or-spread s (spread t xs) k lk
      ∙ bits-same s.bits 0 (λ j. bit_of (s.place k j) (get_or (spread t xs) (s.from k j) 0)) (λ j. bit_of j (get_or xs k 0))
      (λ j z lj. one_bit k j lk (omega arith))
      ∙ bits_of s.bits 0 (get_or xs k 0)
      ∙ ap (λ (v : ℕ). v % 2 ^ s.bits) (div-one (get_or xs k 0))
      ∙ mod-eq_of_lt (small k lk))
