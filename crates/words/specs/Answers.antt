-- What a call answers, and what it leaves in lent bytes.
-- Assumes nothing.
use Rattle.std.specs.Prelude.{ℕ, zero, suc, min, ◌≡◌, Bool, cond, List, [], ◌∷◌, ◌++◌, length, drop}
use Rattle.words.specs.declared.Written.{Written}
use Rattle.words.specs.declared.Number.{Number}

-- The number "given exactly when" the test holds.
infix 80 ◌when◌
abbrev pub ◌when◌ : ℕ → Bool → ℕ
n when b = cond b n 0

-- A call's checks stand in one list, in their order, and the first that applies is answered.
abbrev pub first_applying : List ℕ → ℕ
first_applying [] = 0
first_applying (zero ∷ ns) = first_applying ns
first_applying (suc n ∷ ns) = suc n

-- "Where several apply, the lowest number is given": of some numbers, where 0 stands for a check that does not apply. That the first is the lowest is
-- proved for every call's list (Lowest of each crate); of those with an entry's fields, whose numbers stand "where 10 stood", with 10 for each of
-- them (mapentry and picture, Stood and Lowest).
abbrev pub lower : ℕ → ℕ → ℕ
lower zero k = k
lower (suc n) zero = suc n
lower (suc n) (suc k) = min (suc n) (suc k)

abbrev pub lowest : List ℕ → ℕ
lowest [] = 0
lowest (n ∷ ns) = lower n (lowest ns)

-- One thing where a call is not refused, another where it is.
abbrev pub unless : {A : Type 0} → ℕ → A → A → A
unless zero done refused = done
unless (suc n) done refused = refused

-- "A refusal returns its number, all else returned 0."
abbrev pub written : ℕ → ℕ → Written
written n len = record { refusal = n; written = unless n len 0 }

abbrev pub numbered : ℕ → ℕ → Number
numbered n value = record { refusal = n; value = unless n value 0 }

-- "On success, bytes after the written length are untouched."
abbrev pub overwrite : List ℕ → List ℕ → List ℕ
overwrite before bytes = bytes ++ drop (length bytes) before

-- The promise of a call that writes bytes: its answer, and the lent bytes as it leaves them, "untouched" by a refusal.
pub record Wrote (refusal : ℕ) (bytes before : List ℕ) (r : Written) (after : List ℕ) : Type 0 where
  pub answer : r ≡ written refusal (length bytes)
  pub lent : after ≡ unless refusal (overwrite before bytes) before
