-- "Numbers are decimal up to 4,294,967,295 with no leading zero, 0 as `0`": written, and read.
-- Assumes nothing.
use Rattle.std.specs.Prelude.{ℕ, zero, suc, ◌+◌, ◌*◌, ◌-◌, ◌/◌, ◌%◌, List, [], ◌∷◌, ◌++◌, cond, ltb, leb, eqb, length, get_or, Option, Some, None}

abbrev pub largest : ℕ
largest = 4294967295

-- Its digits, the greatest first, as far as k of them are enough; ten are for every number.
unfoldable pub digits_of : ℕ → ℕ → List ℕ
digits_of zero n = []
digits_of (suc k) n = cond (ltb n 10) ((48 + n) ∷ []) (digits_of k (n / 10) ++ (48 + n % 10) ∷ [])

abbrev pub decimal : ℕ → List ℕ
decimal n = digits_of 10 n

-- Digits read after those that gave n: a byte that is none, or a number too large, tells nothing.
unfoldable pub digits_from : List ℕ → ℕ → Option ℕ
digits_from [] n = Some n
digits_from (b ∷ bs) n =
    cond (ltb b 48) None
    (cond (ltb 57 b) None
    (cond (ltb largest (n * 10 + (b - 48))) None
    (digits_from bs (n * 10 + (b - 48)))))

-- A text of one byte at least, "with no leading zero, 0 as `0`".
unfoldable pub number_in : List ℕ → Option ℕ
number_in s =
    cond (eqb (length s) 0) None
    (cond (eqb (get_or s 0 0) 48) (cond (eqb (length s) 1) (Some 0) None) (digits_from s 0))

-- The same, where the number is top at most.
abbrev pub at_most : ℕ → Option ℕ → Option ℕ
at_most top (Some n) = cond (leb n top) (Some n) None
at_most top None = None
