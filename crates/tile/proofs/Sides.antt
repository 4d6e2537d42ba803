-- The bytes of a word that is made as a side says are the numbers of the side; and what words that were read hold.
-- Assumes nothing.
use mathlib.Core.Path.{◌≡◌, refl, sym, ap, ap₂, ◌∙◌, subst}
use mathlib.Core.Bool.{Bool, true, false, not}
use mathlib.Core.List.{List}
use Prim.Native.Nat.{ℕ, zero, suc, ◌+◌, ◌-◌, ◌*◌, ◌/◌, ◌%◌, ◌^◌, ◌≤◌, ◌<◌}
use native.Mathlib.Nat.{zero-div, zero-add}
use native.Mathlib.Omega.{arith}
use lib.Dec.{T, ltb}
use lib.ListN.{get_or-eq_default, length, get_or}
use borrow.Author.Tests.{le-ltb, lt-ltb}
use Rattle.words.specs.Inner.{word_at, byte_in}
use Rattle.words.proofs.Eights.{word-byte-at}
use Rattle.tile.specs.Bits.{bit_of, from_bits}
use Rattle.tile.specs.Layout.{Side, element}
use Rattle.tile.specs.Packings.{planar}
use Rattle.tile.specs.Inner.{Planes, gate, word_from, WordsOf, CellOf, byte_of, HasWord}
use Rattle.tile.proofs.Bits.{bit-lt, bits-lt, bits-same, bits-split, field, bit-of-bits}
use Rattle.tile.proofs.WordBits.{bit-low, bit-shr}
use Rattle.tile.proofs.Filling.{Starts}

gate-lt : (l : Bool) (v : ℕ) → v < 2 → gate l v < 2
unfolding gate
gate-lt true v h = h
gate-lt false v h = omega arith

gate-open : (l : Bool) (v : ℕ) → l ≡ true → gate l v ≡ v
unfolding gate
gate-open true v e = refl
gate-open false v e = absurd (subst (λ (b : Bool). T (not b)) e tt)

gate-shut : (l : Bool) (v : ℕ) → l ≡ false → gate l v ≡ 0
unfolding gate
gate-shut true v e = absurd (subst T e tt)
gate-shut false v e = refl

-- bits that are 0 from d on are left out
bits-zero : (n at : ℕ) (f : ℕ → ℕ) → ((j : ℕ) → at ≤ j → j < at + n → f j ≡ 0) → from_bits n at f ≡ 0
unfolding from_bits
bits-zero zero at f h = refl
bits-zero (suc n) at f h =
    ap₂ (λ (x y : ℕ). x + 2 * y) (h at (omega arith) (omega arith)) (bits-zero n (suc at) f (λ j l m. h j (omega arith) (omega arith)))

bits-short : (n d : ℕ) (f : ℕ → ℕ) → d ≤ n → ((j : ℕ) → d ≤ j → j < n → f j ≡ 0) → from_bits n 0 f ≡ from_bits d 0 f
bits-short n d f l h =
    ap (λ (k : ℕ). from_bits k 0 f) (omega arith) ∙ bits-split d (n - d) 0 f
    ∙ ap (λ (x : ℕ). from_bits d 0 f + 2 ^ d * x) (bits-zero (n - d) (0 + d) f (λ j a b. h j (omega arith) (omega arith))) ∙ omega arith

-- ---- a byte of a word that is made as a side says

bit-in-byte : (p j w : ℕ) → p < 8 → bit_of (j * 8 + p) w ≡ bit_of p (w / 2 ^ (j * 8) % 256)
bit-in-byte p j w l = sym (bit-shr p w (j * 8)) ∙ sym (bit-low p (w / 2 ^ (j * 8)) 8 l)

-- a byte of a word that is given by its bits
byte-of : (k : ℕ) (f : ℕ → ℕ) → ((j : ℕ) → f j < 2) → k < 8 → from_bits 64 0 f / 2 ^ (k * 8) % 256 ≡ from_bits 8 0 (λ j. f (k * 8 + j))
byte-of k f h l =
    sym (field 8 (k * 8) (from_bits 64 0 f))
    ∙ bits-same 8 0 (λ j. bit_of (k * 8 + j) (from_bits 64 0 f)) (λ j. f (k * 8 + j))
    (λ j a b. bit-of-bits 64 0 (k * 8 + j) f h (omega arith) ∙ ap f (zero-add (k * 8 + j)))

-- bit y of byte x of word b, from where the side takes it
abbrev bit_from : Side → List ℕ → ℕ → ℕ → ℕ → ℕ
bit_from s ws b x y = bit_of (s.from (b * 8 + x) y % 8 * 8 + s.place (b * 8 + x) y) (get_or ws (s.from (b * 8 + x) y / 8) 0)

bit-from-lt : (s : Side) (ws : List ℕ) (b x y : ℕ) → bit_from s ws b x y < 2
bit-from-lt s ws b x y = bit-lt (s.from (b * 8 + x) y % 8 * 8 + s.place (b * 8 + x) y) (get_or ws (s.from (b * 8 + x) y / 8) 0)

pub word_byte : (s : Side) (ws : List ℕ) (b m : ℕ) → s.bits ≤ 8 → ((j : ℕ) → j < s.bits → s.place (b * 8 + m) j < 8) → m < 8
    → byte_in (word_from s ws b) m ≡ from_bits s.bits 0 (λ j. bit_of (s.place (b * 8 + m) j) (byte_of ws (s.from (b * 8 + m) j)))
unfolding word_from
word_byte s ws b m lb place lm =
    let k = b * 8 + m in
    let bit : ℕ → ℕ = λ j. bit_from s ws b (j / 8) (j % 8) in
    let f : ℕ → ℕ = λ j. gate (ltb (j % 8) s.bits) (bit j) in
    byte-of m f (λ j. gate-lt (ltb (j % 8) s.bits) (bit j) (bit-from-lt s ws b (j / 8) (j % 8))) lm
    ∙ bits-short 8 s.bits (λ q. f (m * 8 + q)) lb
    (λ q a c. gate-shut (ltb ((m * 8 + q) % 8) s.bits) (bit (m * 8 + q)) (le-ltb ((m * 8 + q) % 8) s.bits (omega arith)))
    ∙ bits-same s.bits 0 (λ q. f (m * 8 + q)) (λ q. bit_of (s.place k q) (byte_of ws (s.from k q)))
    (λ q a c. let lq : q < 8 = omega arith in
    gate-open (ltb ((m * 8 + q) % 8) s.bits) (bit (m * 8 + q)) (lt-ltb ((m * 8 + q) % 8) s.bits (omega arith))
    ∙ ap₂ (bit_from s ws b) (omega arith) (omega arith)
    ∙ bit-in-byte (s.place k q) (s.from k q % 8) (get_or ws (s.from k q / 8) 0) (place q (omega arith)))

pub word_lt : (s : Side) (ws : List ℕ) (b : ℕ) → word_from s ws b < 2 ^ 64
unfolding word_from
word_lt s ws b = bits-lt 64 0 _ (λ j. gate-lt (ltb (j % 8) s.bits) _ (bit-from-lt s ws b (j / 8) (j % 8)))

-- where the places of a side are: within the first n numbers of the other
abbrev pub Within : Side → ℕ → Type 0
Within s n = (k j : ℕ) → k < s.count → j < s.bits → (s.from k j < n) × (s.place k j < 8)

pub has_word : (s : Side) (n : ℕ) (xs ws : List ℕ) (b w : ℕ) → s.bits ≤ 8 → Within s (n * 8) → WordsOf xs n ws
    → b * 8 + 8 ≤ s.count → w ≡ word_from s ws b → HasWord (element s xs) b w
has_word s n xs ws b w lb within read lk e m lm =
    let k = b * 8 + m in
    ap (λ (x : ℕ). byte_in x m) e
    ∙ word_byte s ws b m lb (λ j l. (within k j (omega arith) l).1) lm
    ∙ bits-same s.bits 0 (λ q. bit_of (s.place k q) (byte_of ws (s.from k q))) (λ q. bit_of (s.place k q) (get_or xs (s.from k q) 0))
    (λ q a c. ap (bit_of (s.place k q)) (read.are (s.from k q) (within k q (omega arith) (omega arith)).0))

-- ---- words that were read

cell-place : (from w k : ℕ) → from + k / 8 / 2 * w + k / 8 % 2 * 8 + k % 8 ≡ from + k / 16 * w + k % 16
cell-place from w k = let y : k / 8 / 2 ≡ k / 16 = omega arith in rw y (omega arith)

module _ (xs : List ℕ) (small : (i : ℕ) → get_or xs i 0 < 256) where
  -- a word each where from says
  module _ {size n : ℕ} {ws : List ℕ} (from : ℕ → ℕ) (st : Starts size (λ i. word_at false xs (from i)) n ws) where
    starts-at : (k : ℕ) → k < n * 8 → byte_of ws k ≡ get_or xs (from (k / 8) + k % 8) 0
    starts-at k l =
        ap (λ (w : ℕ). byte_in w (k % 8)) (st.are (k / 8) (omega arith))
        ∙ word-byte-at xs small false (from (k / 8)) (k % 8) (omega arith)

  pub words-read : {n : ℕ} {ws : List ℕ} → Starts 8 (λ i. word_at false xs (i * 8)) n ws → WordsOf xs n ws
  words-read st =
      record { are = λ k l. starts-at (λ i. i * 8) st k l ∙ ap (λ (x : ℕ). get_or xs x 0) (omega arith) }

  pub cell-read : {ws : List ℕ} (from w : ℕ) → Starts 32 (λ i. word_at false xs (from + i / 2 * w + i % 2 * 8)) 32 ws → CellOf xs from w ws
  cell-read from w st =
      record {
        are = λ k l. starts-at (λ i. from + i / 2 * w + i % 2 * 8) st k (omega arith) ∙ ap (λ (x : ℕ). get_or xs x 0) (cell-place from w k);
      }

-- the planes that a tile does not have are 0
planes-short : (bs : List ℕ) (g d i : ℕ) → d ≤ 8 → length bs ≡ d * 8 → ((q : ℕ) → d ≤ q → d * 8 ≤ q / g * (g * 8))
    → element (planar g 8 8 8).pixels bs i ≡ element (planar g d 8 8).pixels bs i
planes-short bs g d i ld len over =
    bits-short 8 d (λ q. bit_of (7 - i % 8) (get_or bs (q / g * (g * 8) + i / 8 * g + q % g) 0)) ld
    (λ q a b. ap (bit_of (7 - i % 8)) (get_or-eq_default bs 0 (omega (arith, over q a, len))) ∙ ap (λ (x : ℕ). x % 2) (zero-div (2 ^ (7 - i % 8))))

pub fewer-planes : (bs : List ℕ) (g d i : ℕ) → Planes g d → length bs ≡ d * 8 → element (planar g 8 8 8).pixels bs i ≡ element (planar g d 8 8).pixels bs i
fewer-planes bs zero d i h len = absurd (omega (arith, h.group.some))
fewer-planes bs (suc zero) d i h len = planes-short bs 1 d i h.deep len (λ q l. omega arith)
fewer-planes bs (suc (suc zero)) d i h len = planes-short bs 2 d i h.deep len (λ q l. omega (arith, h.pairs refl))
fewer-planes bs (suc (suc (suc zero))) d i h len = absurd (h.group.even refl)
fewer-planes bs (suc (suc (suc (suc zero)))) d i h len = planes-short bs 4 d i h.deep len (λ q l. omega (arith, h.fours refl))
fewer-planes bs (suc (suc (suc (suc (suc g))))) d i h len = absurd (omega (arith, h.group.few))
