-- "A channel with top m": eight bits reduced to a component, and a component's bits repeated to eight.
-- Assumes nothing.
use Rattle.std.specs.Prelude.{ℕ, zero, suc, ◌+◌, ◌*◌, ◌-◌, ◌/◌, ◌^◌, cond, List, [], ◌∷◌, ◌++◌, ltb, leb, eqb}
use Rattle.words.specs.Answers.{◌when◌, first_applying}
use Rattle.mode.specs.Table.{row}
use Rattle.color.specs.declared.Rounding.{Rounding}
use Rattle.color.specs.declared.Rounding.TheVariants.{Truncate, Nearest}

-- How many bits a component has.
abbrev pub bits_up_to : ℕ → ℕ
bits_up_to top = cond (eqb top 3) 2 (cond (eqb top 7) 3 (cond (eqb top 15) 4 5))

-- "`Truncate` shifts right; `Nearest` is the whole part of (value x m + 127) / 255."
abbrev pub reduced : Rounding → ℕ → ℕ → ℕ
reduced Truncate top value = value / 2 ^ (8 - bits_up_to top)
reduced Nearest top value = (value * top + 127) / 255

-- The first `left` bits of the n bits of v, written again and again.
unfoldable pub again : ℕ → ℕ → ℕ → ℕ → ℕ
again zero n v left = 0
again (suc k) n v left = cond (leb left n) (v / 2 ^ (n - left)) (v * 2 ^ (left - n) + again k n v (left - n))

-- "`scale_up` takes a component (else 9) and repeats its bits."
unfoldable pub scaled_up : ℕ → ℕ → ℕ
scaled_up top v = again 4 (bits_up_to top) v 8

abbrev pub mode_checks : ℕ → List ℕ
mode_checks m = 1 when ltb 15 m ∷ []

abbrev pub mode_says : ℕ → ℕ
mode_says m = first_applying (mode_checks m)

abbrev pub scale_checks : ℕ → ℕ → List ℕ
scale_checks m v = mode_checks m ++ 9 when ltb (row m).top v ∷ []

abbrev pub scale_says : ℕ → ℕ → ℕ
scale_says m v = first_applying (scale_checks m v)
