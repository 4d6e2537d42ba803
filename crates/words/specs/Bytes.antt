-- A word as bytes, and bytes compared.
-- Assumes nothing.
use Rattle.std.specs.Prelude.{ℕ, zero, suc, ◌+◌, ◌*◌, ◌/◌, ◌%◌, Bool, true, false, cond, ◌&&◌, List, [], ◌∷◌, reverse, eqb, ltb}

-- A bool as a bit.
abbrev pub bit : Bool → ℕ
bit b = cond b 1 0

-- The bytes of a word, the least first.
abbrev pub least_first : ℕ → ℕ → List ℕ
least_first zero word = []
least_first (suc n) word = word % 256 ∷ least_first n (word / 256)

-- The word that bytes hold, the least first.
abbrev pub value_of : List ℕ → ℕ
value_of [] = 0
value_of (b ∷ bs) = b + 256 * value_of bs

-- The same, in either order: size bytes, the most first where the test says so.
abbrev pub bytes_of : ℕ → Bool → ℕ → List ℕ
bytes_of size false word = least_first size word
bytes_of size true word = reverse (least_first size word)

abbrev pub word_of : Bool → List ℕ → ℕ
word_of false bs = value_of bs
word_of true bs = value_of (reverse bs)

-- Each number is a byte.
abbrev pub are_bytes : List ℕ → Bool
are_bytes [] = true
are_bytes (b ∷ bs) = ltb b 256 && are_bytes bs

-- Two lists are the same, byte by byte.
abbrev pub same : List ℕ → List ℕ → Bool
same [] [] = true
same [] (y ∷ ys) = false
same (x ∷ xs) [] = false
same (x ∷ xs) (y ∷ ys) = eqb x y && same xs ys
