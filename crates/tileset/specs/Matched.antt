-- Whether a tile matches one of some tiles, and that no two of some tiles match.
-- Assumes nothing.
use Rattle.std.specs.Prelude.{◌≡◌, Bool, false, ◌||◌, List, [], ◌∷◌, ℕ, ◌<◌, length, get_or}
use Rattle.flip.specs.Matching.{matches}

abbrev pub matches_some : Bool → ℕ → ℕ → List (List ℕ) → List ℕ → Bool
matches_some on w h [] tile = false
matches_some on w h (a ∷ rest) tile = matches on w h a tile || matches_some on w h rest tile

-- With discarding on no two stored tiles match.
unfoldable pub Apart : Bool → ℕ → ℕ → List (List ℕ) → Type 0
Apart on w h tiles = (i j : ℕ) → i < j → j < length tiles → matches on w h (get_or tiles i []) (get_or tiles j []) ≡ false
