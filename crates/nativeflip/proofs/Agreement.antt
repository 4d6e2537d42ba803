-- Unpacking, flipping and packing is one step from bytes to bytes: one theorem, over any layout and any step that pass a computed test.
-- Assumes nothing.
use mathlib.Core.Path.{◌≡◌, sym, ap, ap₂, ◌∙◌, subst}
use mathlib.Core.Bool.{Bool, ◌&&◌}
use mathlib.Core.List.{List}
use Prim.Native.Nat.{ℕ, ◌*◌, ◌<◌}
use native.Mathlib.Nat.{zero-add}
use native.Mathlib.Omega.{arith}
use lib.Dec.{T, ltb, eqb, ltb→lt, eqb→eq}
use lib.ListN.{get_or}
use lib.Seq.{ext_get_or}
use Rattle.words.specs.Inner.{all}
use Rattle.words.proofs.Loops.{both_left, both_right, all-at}
use Rattle.tile.specs.Bits.{bit_of, from_bits}
use Rattle.tile.specs.Layout.{Side, Layout, spread}
use Rattle.tile.proofs.Bits.{bit-lt, bits-same, bit-of-bits}
use Rattle.tile.proofs.RoundTrip.{length-spread, get_or-spread}
use Rattle.flip.specs.Flips.{flip_at, flipped}
use Rattle.flip.specs.declared.Flip.{Flip}
use Rattle.flip.proofs.Group.{flip_at-lt, flipped-at}

-- the test: bit j of byte k is a bit of a pixel, and the same bit of the pixel that the flip puts there stands in the byte and at the bit that t says
abbrev pub agrees : Layout → Flip → ℕ → ℕ → Side → ℕ → ℕ → Bool
agrees l f w h t k j =
    (ltb (l.bytes.from k j) (w * h) && ltb (l.bytes.place k j) l.pixels.bits)
    && (eqb (l.pixels.from (flip_at f w h (l.bytes.from k j)) (l.bytes.place k j)) (t.from k j)
    && eqb (l.pixels.place (flip_at f w h (l.bytes.from k j)) (l.bytes.place k j)) (t.place k j))

abbrev pub all_agree : Layout → Flip → ℕ → ℕ → Side → Bool
all_agree l f w h t = all l.bytes.count (λ k. all l.bytes.bits (agrees l f w h t k))

-- what it says at each place
record Agrees (l : Layout) (f : Flip) (w h : ℕ) (t : Side) (k j : ℕ) : Type 0 where
  pub within : l.bytes.from k j < w * h
  pub bit-within : l.bytes.place k j < l.pixels.bits
  pub same : l.pixels.from (flip_at f w h (l.bytes.from k j)) (l.bytes.place k j) ≡ t.from k j
  pub bit-same : l.pixels.place (flip_at f w h (l.bytes.from k j)) (l.bytes.place k j) ≡ t.place k j

agrees_at : (l : Layout) (f : Flip) (w h : ℕ) (t : Side) → T (all_agree l f w h t) → (k j : ℕ) → k < l.bytes.count → j < l.bytes.bits → Agrees l f w h t k j
agrees_at l f w h t ok k j lk lj =
    let i = l.bytes.from k j in
    let p = l.bytes.place k j in
    let to = l.pixels.from (flip_at f w h i) p in
    let bit = l.pixels.place (flip_at f w h i) p in
    let here : T (agrees l f w h t k j) = all-at l.bytes.bits (agrees l f w h t k) (all-at l.bytes.count (λ k. all l.bytes.bits (agrees l f w h t k)) ok k lk) j lj in
    let in-range = both_left (ltb i (w * h) && ltb p l.pixels.bits) (eqb to (t.from k j) && eqb bit (t.place k j)) here in
    let alike = both_right (ltb i (w * h) && ltb p l.pixels.bits) (eqb to (t.from k j) && eqb bit (t.place k j)) here in
    record {
      within = ltb→lt i (w * h) (both_left (ltb i (w * h)) (ltb p l.pixels.bits) in-range);
      bit-within = ltb→lt p l.pixels.bits (both_right (ltb i (w * h)) (ltb p l.pixels.bits) in-range);
      same = eqb→eq to (t.from k j) (both_left (eqb to (t.from k j)) (eqb bit (t.place k j)) alike);
      bit-same = eqb→eq bit (t.place k j) (both_right (eqb to (t.from k j)) (eqb bit (t.place k j)) alike);
    }

module _ (l : Layout) (f : Flip) (w h : ℕ) (t : Side) (z : 0 < w) (size : l.pixels.count ≡ w * h) (ok : T (all_agree l f w h t)) (bytes : List ℕ) where
  -- one bit
  one_bit : (k j : ℕ) → k < l.bytes.count → j < l.bytes.bits → bit_of (l.bytes.place k j) (get_or (flipped f w h (spread l.pixels bytes)) (l.bytes.from k j) 0) ≡ bit_of (t.place k j) (get_or bytes (t.from k j) 0)
  one_bit k j lk lj =
      let a = agrees_at l f w h t ok k j lk lj in
      let s = l.pixels in
      let p = l.bytes.place k j in
      let i = flip_at f w h (l.bytes.from k j) in
      let inside : i < s.count = subst (λ (n : ℕ). i < n) (sym size) (flip_at-lt w h (l.bytes.from k j) a.within z f) in
      ap (bit_of p) (flipped-at f w h (spread s bytes) (l.bytes.from k j) a.within ∙ get_or-spread s bytes i inside)
      ∙ bit-of-bits s.bits 0 p (λ q. bit_of (s.place i q) (get_or bytes (s.from i q) 0)) (λ q. bit-lt (s.place i q) (get_or bytes (s.from i q) 0)) a.bit-within
      ∙ ap (λ (q : ℕ). bit_of (s.place i q) (get_or bytes (s.from i q) 0)) (zero-add p)
      ∙ ap₂ (λ (q n : ℕ). bit_of q (get_or bytes n 0)) a.bit-same a.same

  pub one-step : t.count ≡ l.bytes.count → t.bits ≡ l.bytes.bits → spread l.bytes (flipped f w h (spread l.pixels bytes)) ≡ spread t bytes
  one-step count bits =
      let there = flipped f w h (spread l.pixels bytes) in
      ext_get_or 0 (spread l.bytes there) (spread t bytes) (length-spread l.bytes there ∙ sym count ∙ sym (length-spread t bytes))
      (λ k p. let lk : k < l.bytes.count = subst (λ (n : ℕ). k < n) (length-spread l.bytes there) p in
      get_or-spread l.bytes there k lk
      ∙ bits-same l.bytes.bits 0 (λ j. bit_of (l.bytes.place k j) (get_or there (l.bytes.from k j) 0)) (λ j. bit_of (t.place k j) (get_or bytes (t.from k j) 0))
      (λ j q lj. one_bit k j lk (omega arith))
      ∙ ap (λ (n : ℕ). from_bits n 0 (λ j. bit_of (t.place k j) (get_or bytes (t.from k j) 0))) (sym bits)
      ∙ sym (get_or-spread t bytes k (subst (λ (n : ℕ). k < n) (sym count) lk)))
