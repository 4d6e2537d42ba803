-- The words that the code turns, written out, and by computed tests where each of their bytes and bits comes from.
-- Assumes nothing.
use mathlib.Core.Path.{◌≡◌, refl, sym, ap, ◌∙◌}
use mathlib.Core.Bool.{Bool}
use mathlib.Core.List.{[], ◌∷◌}
use Prim.Native.Nat.{ℕ, ◌+◌, ◌*◌, ◌^◌, ◌<◌}
use native.Mathlib.Nat.{zero-add}
use native.Mathlib.Omega.{arith}
use lib.Dec.{T, ltb, eqb, ltb→lt, eqb→eq}
use lib.ListN.{get_or}
use borrow.Author.Tests.{ne_eqb}
use Rattle.words.specs.Inner.{byte_in, all}
use Rattle.words.proofs.Loops.{all-at}
use Rattle.tile.specs.Bits.{bit_of, from_bits}
use Rattle.tile.specs.Layout.{Side}
use Rattle.tile.specs.Inner.{byte_of}
use Rattle.tile.proofs.Bits.{bits-same, bits_of}
use Rattle.tile.proofs.Columns.{only}
use Rattle.tile.proofs.Packings.{or-none}
use Rattle.tile.proofs.Sides.{word_byte}
use Rattle.tile.proofs.Wires.{is_side, word-is, one-small, trade}
use Rattle.tile.proofs.Wiring.{Wire, given, value, is_wired_in, origin, pick, merge, is_from, suits}
use Rattle.nativeflip.specs.Inner.{is_row, is_pixel_row, parts_back, exchanged, RowsBack, FieldsBack}

-- ---- a byte by its bits

pub byte-bits : (v : ℕ) → v < 256 → from_bits 8 0 (λ j. bit_of j v) ≡ v
byte-bits v l = omega (arith, bits_of 8 0 v)

byte-in : (w m : ℕ) → byte_in w m < 256
byte-in w m = omega arith

-- ---- one word out of one word: byte m comes from byte from m, bit j of each from bit place j

abbrev in_word : (ℕ → ℕ) → (ℕ → ℕ) → Side
in_word from place = record { count = 8; bits = 8; from = λ m j. from m; place = λ m j. place j }

abbrev within : (ℕ → ℕ) → Bool
within f = all 8 (λ x. ltb (f x) 8)

within-at : (f : ℕ → ℕ) → T (within f) → (x : ℕ) → x < 8 → f x < 8
within-at f t x l = ltb→lt (f x) 8 (all-at 8 (λ x. ltb (f x) 8) t x l)

module _ (from place : ℕ → ℕ) (wire : Wire) (is : T (is_side (in_word from place) 1 (λ b. wire))) (bytes : T (within from)) (bits : T (within place)) where
  wired-byte : (w r : ℕ) → w < 2 ^ 64 → r ≡ value (λ i. get_or (w ∷ []) i 0) wire
      → (m : ℕ) → m < 8 → byte_in r m ≡ from_bits 8 0 (λ j. bit_of (place j) (byte_in w (from m)))
  wired-byte w r l e m lm =
      ap (λ (x : ℕ). byte_in x m) (e ∙ word-is (in_word from place) 1 (λ b. wire) is (w ∷ []) (one-small w l) 0 (omega arith))
      ∙ word_byte (in_word from place) (w ∷ []) 0 m (omega arith) (λ j lj. within-at place bits j lj) lm
      ∙ bits-same 8 0 (λ j. bit_of (place j) (byte_of (w ∷ []) (from (0 * 8 + m)))) (λ j. bit_of (place j) (byte_in w (from m)))
      (λ j a b.
      ap (λ (x : ℕ). bit_of (place j) (byte_of (w ∷ []) (from x))) (zero-add m)
      ∙ ap (bit_of (place j)) (only w (from m) (within-at from bytes m lm)))

-- ---- the code's words

-- one exchange more
next : (e : ℕ → ℕ) (m s : ℕ) (wire : Wire) {x r : ℕ} → x ≡ value e wire → r ≡ exchanged m s x → r ≡ value e (trade m s wire)
unfolding value trade
next e m s wire h k = k ∙ ap (exchanged m s) h

-- the lower of each two fields
abbrev low_halves : ℕ
low_halves = 0x00000000ffffffff

abbrev low_doubles : ℕ
low_doubles = 0x0000ffff0000ffff

abbrev low_bytes : ℕ
low_bytes = 0x00ff00ff00ff00ff

abbrev low_nibbles : ℕ
low_nibbles = 0x0f0f0f0f0f0f0f0f

abbrev low_pairs : ℕ
low_pairs = 0x3333333333333333

abbrev halves : Wire → Wire
halves w = trade low_halves 32 w

abbrev doubles : Wire → Wire
doubles w = trade low_doubles 16 w

abbrev bytes : Wire → Wire
bytes w = trade low_bytes 8 w

abbrev nibbles : Wire → Wire
nibbles w = trade low_nibbles 4 w

abbrev pairs : Wire → Wire
pairs w = trade low_pairs 2 w

-- rows of n bytes in reverse order
unfoldable rows_are : ℕ → Wire → Bool
rows_are n w = is_side (in_word (parts_back n) (λ j. j)) 1 (λ b. w)

rows-of-4 : T (rows_are 4 (halves (given 0)))
unfolding rows_are is_side is_wired_in trade origin pick merge is_from suits
rows-of-4 = tt

rows-of-2 : T (rows_are 2 (doubles (halves (given 0))))
unfolding rows_are is_side is_wired_in trade origin pick merge is_from suits
rows-of-2 = tt

rows-of-1 : T (rows_are 1 (bytes (doubles (halves (given 0)))))
unfolding rows_are is_side is_wired_in trade origin pick merge is_from suits
rows-of-1 = tt

rows_back : (n : ℕ) (wire : Wire) → T (rows_are n wire) → T (within (parts_back n)) → (w r : ℕ) → w < 2 ^ 64 → r ≡ value (λ i. get_or (w ∷ []) i 0) wire → RowsBack n w r
unfolding rows_are
rows_back n wire is inside w r l e m lm =
    wired-byte (parts_back n) (λ j. j) wire is inside tt w r l e m lm ∙ byte-bits (byte_in w (parts_back n m)) (byte-in w (parts_back n m))

-- fields of n bits in reverse order in each byte
unfoldable fields_are : ℕ → Wire → Bool
fields_are n w = is_side (in_word (λ m. m) (parts_back n)) 1 (λ b. w)

fields-of-4 : T (fields_are 4 (nibbles (given 0)))
unfolding fields_are is_side is_wired_in trade origin pick merge is_from suits
fields-of-4 = tt

fields-of-2 : T (fields_are 2 (pairs (nibbles (given 0))))
unfolding fields_are is_side is_wired_in trade origin pick merge is_from suits
fields-of-2 = tt

fields_back_lem : (n : ℕ) (wire : Wire) → T (fields_are n wire) → T (within (parts_back n)) → (w r : ℕ) → w < 2 ^ 64 → r ≡ value (λ i. get_or (w ∷ []) i 0) wire → FieldsBack n w r
unfolding fields_are
fields_back_lem n wire is inside w r l e = wired-byte (λ m. m) (parts_back n) wire is tt inside w r l e

-- ---- by the bytes of a row

pub rows-8 : (w : ℕ) → RowsBack 8 w w
rows-8 w m lm = let here : m ≡ parts_back 8 m = omega arith in ap (byte_in w) here

pub fields-8 : (w : ℕ) → FieldsBack 8 w w
fields-8 w m lm =
    sym (byte-bits (byte_in w m) (byte-in w m))
    ∙ bits-same 8 0 (λ j. bit_of j (byte_in w m)) (λ j. bit_of (parts_back 8 j) (byte_in w m))
    (λ j a b. let here : j ≡ parts_back 8 j = omega arith in ap (λ (p : ℕ). bit_of p (byte_in w m)) here)

module _ (w : ℕ) (l : w < 2 ^ 64) where
  abbrev e : ℕ → ℕ
  e i = get_or (w ∷ []) i 0

  of-halves : {r : ℕ} → r ≡ exchanged low_halves 32 w → r ≡ value e (halves (given 0))
  unfolding value
  of-halves h = next e low_halves 32 (given 0) refl h

  of-doubles : {a r : ℕ} → a ≡ exchanged low_halves 32 w → r ≡ exchanged low_doubles 16 a → r ≡ value e (doubles (halves (given 0)))
  of-doubles h d = next e low_doubles 16 (halves (given 0)) (of-halves h) d

  of-nibbles : {r : ℕ} → r ≡ exchanged low_nibbles 4 w → r ≡ value e (nibbles (given 0))
  unfolding value
  of-nibbles n = next e low_nibbles 4 (given 0) refl n

  pub rows-4 : {r : ℕ} → r ≡ exchanged low_halves 32 w → RowsBack 4 w r
  rows-4 {r} h = rows_back 4 (halves (given 0)) rows-of-4 tt w r l (of-halves h)

  pub rows-2 : {a r : ℕ} → a ≡ exchanged low_halves 32 w → r ≡ exchanged low_doubles 16 a → RowsBack 2 w r
  rows-2 {r = r} h d = rows_back 2 (doubles (halves (given 0))) rows-of-2 tt w r l (of-doubles h d)

  pub rows-1 : {a b r : ℕ} → a ≡ exchanged low_halves 32 w → b ≡ exchanged low_doubles 16 a → r ≡ exchanged low_bytes 8 b → RowsBack 1 w r
  rows-1 {r = r} h d b = rows_back 1 (bytes (doubles (halves (given 0)))) rows-of-1 tt w r l (next e low_bytes 8 (doubles (halves (given 0))) (of-doubles h d) b)

  pub fields-4 : {r : ℕ} → r ≡ exchanged low_nibbles 4 w → FieldsBack 4 w r
  fields-4 {r} n = fields_back_lem 4 (nibbles (given 0)) fields-of-4 tt w r l (of-nibbles n)

  pub fields-2 : {a r : ℕ} → a ≡ exchanged low_nibbles 4 w → r ≡ exchanged low_pairs 2 a → FieldsBack 2 w r
  fields-2 {r = r} n p = fields_back_lem 2 (pairs (nibbles (given 0))) fields-of-2 tt w r l (next e low_pairs 2 (nibbles (given 0)) (of-nibbles n) p)

-- a row that is none of the others
pub last_row : (n : ℕ) → T (is_row n) → (n ≡ 8 → ⊥) → (n ≡ 4 → ⊥) → (n ≡ 2 → ⊥) → n ≡ 1
last_row n t n8 n4 n2 = eqb→eq n 1 (rw (ne_eqb n 8 n8, ne_eqb n 4 n4, ne_eqb n 2 n2, or-none (eqb n 1)) at t)

pub last-pixels : (n : ℕ) → T (is_pixel_row n) → (n ≡ 8 → ⊥) → (n ≡ 4 → ⊥) → n ≡ 2
last-pixels n t n8 n4 = eqb→eq n 2 (rw (ne_eqb n 8 n8, ne_eqb n 4 n4, or-none (eqb n 2)) at t)
