-- Inner shapes: what the code and its proofs compute on the way; no promise and no law reaches it.
-- Assumes nothing.
use Rattle.std.specs.Prelude.{ℕ, zero, suc, ◌≤◌, List, [], ◌∷◌, ◌++◌, ◌≡◌, ◌<◌, Result, MatchResult}
use Rattle.words.specs.declared.refusal.Refusal.{Refusal}
use Rattle.mode.specs.declared.EntryBits.{EntryBits}
use Rattle.mode.specs.Table.{Row}

-- How many bits each field of an entry has: twelve at most.
abbrev pub entry_bits : Row → EntryBits
entry_bits r = record { tile = r.tile; palette = r.palette; flips = r.flips; priority = r.priority }

pub record Few (b : EntryBits) : Type 0 where
  pub tile : b.tile ≤ 12
  pub palette : b.palette ≤ 12
  pub flips : b.flips ≤ 12
  pub priority : b.priority ≤ 12

-- A row as the code keeps it: three depths, the last again where there are fewer, and the other numbers.
abbrev pub depth_at : ℕ → List ℕ → ℕ
depth_at k [] = 0
depth_at k (d ∷ []) = d
depth_at zero (d ∷ e ∷ ds) = d
depth_at (suc k) (d ∷ e ∷ ds) = depth_at k (e ∷ ds)

abbrev pub three : List ℕ → List ℕ
three ds = depth_at 0 ds ∷ depth_at 1 ds ∷ depth_at 2 ds ∷ []

abbrev pub numbers : Row → List ℕ
numbers r = three r.depths ++ r.top ∷ r.entry ∷ r.tile ∷ r.palette ∷ r.flips ∷ r.priority ∷ []

-- "Modes are numbered 0 to 15 in this order."
abbrev pub consoles : List ℕ
consoles = 0 ∷ 1 ∷ 2 ∷ 3 ∷ 4 ∷ 5 ∷ 6 ∷ 7 ∷ 8 ∷ 9 ∷ 10 ∷ 11 ∷ 12 ∷ 13 ∷ 14 ∷ 15 ∷ []

-- "Mode number above 15" is refused; any other is a mode's.
abbrev pub IsMode : ℕ → Result ℕ Refusal → Type 0
IsMode n r = MatchResult r (λ m. (m ≡ n) × (n < 16)) (λ e. (e ≡ Refusal.Mode) × (15 < n))
