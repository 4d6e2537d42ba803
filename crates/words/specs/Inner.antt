-- Inner shapes: what the code and its proofs compute on the way; no promise and no law reaches it.
-- Assumes nothing.
use Rattle.std.specs.Prelude.{ℕ, zero, suc, ◌+◌, ◌-◌, ◌*◌, ◌/◌, ◌%◌, ◌^◌, Bool, true, cond, ◌&&◌, List, [], ◌∷◌, ltb, eqb, get_or}
use Rattle.words.specs.Fields.{Field}
use Rattle.words.specs.Loops.{each}

-- The bits of all fields, and of one value's.
abbrev pub bits_of : List Field → ℕ
bits_of [] = 0
bits_of (f ∷ fs) = f.bits + bits_of fs

abbrev pub bits_for : ℕ → List Field → ℕ
bits_for k [] = 0
bits_for k (f ∷ fs) = cond (eqb k f.value) f.bits 0 + bits_for k fs

-- Each field names one of the six values.
abbrev pub are_fields : List Field → Bool
are_fields [] = true
are_fields (f ∷ fs) = ltb f.value 6 && are_fields fs

-- Where the first field of value k begins, of fields from a bit on; 16, above every word, where there is none.
abbrev pub start_of : ℕ → ℕ → List Field → ℕ
start_of from k [] = 16
start_of from k (f ∷ fs) = cond (eqb k f.value) from (start_of (from + f.bits) k fs)

-- How many bits of value k the fields begin with, and where it begins again after other fields.
abbrev pub run_of : ℕ → List Field → ℕ
run_of k [] = 0
run_of k (f ∷ fs) = cond (eqb k f.value) (f.bits + run_of k fs) 0

abbrev pub start_again : ℕ → ℕ → List Field → ℕ
start_again from k [] = 16
start_again from k (f ∷ fs) = cond (eqb k f.value) (start_again (from + f.bits) k fs) (start_of (from + f.bits) k fs)

-- Whether every item is as asked.
abbrev pub all : ℕ → (ℕ → Bool) → Bool
all zero f = true
all (suc n) f = f n && all n f

-- ---- eight bytes as one word, the first at the bottom: so they are moved, compared and packed at once

-- The number whose bytes, lowest first, are f at, f (at + 1), .., n of them.
unfoldable pub wide : ℕ → ℕ → (ℕ → ℕ) → ℕ
wide zero at f = 0
wide (suc n) at f = f at + 256 * wide n (suc at) f

-- Byte x of the eight from place at on, or, read back, of the eight from their end; and the word of the eight.
abbrev pub eight_at : Bool → List ℕ → ℕ → ℕ → ℕ
eight_at back xs at x = get_or xs (at + cond back (7 - x) x) 0

abbrev pub word_at : Bool → List ℕ → ℕ → ℕ
word_at back xs at = wide 8 0 (eight_at back xs at)

-- The eight themselves.
abbrev pub eight : Bool → List ℕ → ℕ → List ℕ
eight back xs at = each 8 (λ x. eight_at back xs at x ∷ [])

-- Byte m of a word, and all of them.
abbrev pub byte_in : ℕ → ℕ → ℕ
byte_in w m = w / 2 ^ (m * 8) % 256

abbrev pub bytes_in : ℕ → List ℕ
bytes_in w = each 8 (λ m. byte_in w m ∷ [])
