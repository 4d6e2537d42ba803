-- What is stored of some tiles, added one after the other: the one fold of adding, over lists of tiles. A set's store and a picture's tiles are read by it.
-- Assumes nothing.
use Rattle.std.specs.Prelude.{Bool, not, cond, ◌&&◌, List, [], ◌∷◌, ◌++◌, ℕ, ◌+◌, length}
use Rattle.words.specs.Bytes.{bit}
use Rattle.tileset.specs.Finding.{look_up, is_found}
use Rattle.tileset.specs.Matched.{matches_some}

-- The stored tiles after one more: "With discarding on, a match adds one to discarded and stores nothing; otherwise the tile goes at the end, or 12"
-- (the 12 is a picture's own, counted by its need). And after some more.
unfoldable pub keep : Bool → Bool → ℕ → ℕ → List (List ℕ) → List ℕ → List (List ℕ)
keep discard on w h stored tile = cond (discard && is_found (look_up on w h stored tile)) stored (stored ++ tile ∷ [])

abbrev pub keep_all : Bool → Bool → ℕ → ℕ → List (List ℕ) → List (List ℕ) → List (List ℕ)
keep_all discard on w h stored [] = stored
keep_all discard on w h stored (t ∷ ts) = keep_all discard on w h (keep discard on w h stored t) ts

unfoldable pub kept : Bool → Bool → ℕ → ℕ → List (List ℕ) → List (List ℕ)
kept discard on w h tiles = keep_all discard on w h [] tiles

-- Of some tiles, how many match no earlier one, and how many do; the earlier ones of all being given.
abbrev pub fresh : Bool → ℕ → ℕ → List (List ℕ) → List (List ℕ) → ℕ
fresh on w h earlier [] = 0
fresh on w h earlier (t ∷ ts) = bit (not (matches_some on w h earlier t)) + fresh on w h (earlier ++ t ∷ []) ts

abbrev pub again : Bool → ℕ → ℕ → List (List ℕ) → List (List ℕ) → ℕ
again on w h earlier [] = 0
again on w h earlier (t ∷ ts) = bit (matches_some on w h earlier t) + again on w h (earlier ++ t ∷ []) ts

-- "Need is the number of tiles, cut to the depth, that match no earlier tile of the picture under the allowed flips (with discarding off, all)."
unfoldable pub need : Bool → Bool → ℕ → ℕ → List (List ℕ) → ℕ
need discard on w h tiles = cond discard (fresh on w h [] tiles) (length tiles)

-- "Discarded is the number of those whose tile matched one read or accepted earlier (0 with discarding off)": of a picture, an earlier tile.
abbrev pub repeats : Bool → Bool → ℕ → ℕ → List (List ℕ) → List (List ℕ) → ℕ
repeats discard on w h earlier tiles = cond discard (again on w h earlier tiles) 0

unfoldable pub discarded : Bool → Bool → ℕ → ℕ → List (List ℕ) → ℕ
discarded discard on w h tiles = repeats discard on w h [] tiles
