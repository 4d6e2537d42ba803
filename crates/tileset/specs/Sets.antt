-- "Sets and whole tiles": a set, its sizes and its room.
-- Assumes nothing.
use Rattle.std.specs.Prelude.{Bool, false, not, cond, ◌&&◌, List, [], ◌∷◌, ◌++◌, ℕ, ◌*◌, ◌/◌, min, ltb, eqb}
use Rattle.words.specs.Answers.{◌when◌, first_applying, unless}
use Rattle.mode.specs.Table.{one_of, has_depth, snes, pce-sprite}
use Rattle.tileset.specs.declared.Set.{Set}
use Rattle.tileset.specs.declared.SetAnswer.{SetAnswer}

-- "Snes tiles: width and height each 8, 16, 32 or 64. Pce_sprite: its six sizes. Others: width 8, height 8, 16, 32 or 64."
abbrev pub sides : List ℕ
sides = 8 ∷ 16 ∷ 32 ∷ 64 ∷ []

abbrev pub widths : ℕ → List ℕ
widths m = cond (eqb m snes) sides (cond (eqb m pce-sprite) (16 ∷ 32 ∷ []) (8 ∷ []))

abbrev pub heights : ℕ → List ℕ
heights m = cond (eqb m pce-sprite) (16 ∷ 32 ∷ 64 ∷ []) sides

abbrev pub is_width : ℕ → ℕ → Bool
is_width m w = one_of w (widths m)

abbrev pub is_height : ℕ → ℕ → Bool
is_height m h = one_of h (heights m)

abbrev pub is_size : ℕ → ℕ → ℕ → Bool
is_size m w h = is_width m w && is_height m h

-- "New and reset sets have counts 0 (1, 3, 4 checked)."
abbrev pub set_checks : ℕ → ℕ → ℕ → ℕ → List ℕ
set_checks m d w h = 1 when ltb 15 m ∷ 3 when not (has_depth m d) ∷ 4 when not (is_size m w h) ∷ []

unfoldable pub set_says : ℕ → ℕ → ℕ → ℕ → ℕ
set_says m d w h = first_applying (set_checks m d w h)

abbrev pub with_counts : Set → ℕ → ℕ → Set
with_counts z stored discarded =
    record {
      mode = z.mode;
      depth = z.depth;
      width = z.width;
      height = z.height;
      flips = z.flips;
      discarding = z.discarding;
      limit = z.limit;
      stored = stored;
      discarded = discarded;
    }

abbrev pub emptied : Set → Set
emptied z = with_counts z 0 0

abbrev pub new_set : ℕ → ℕ → ℕ → ℕ → Bool → Bool → ℕ → Set
new_set m d w h flips discarding limit =
    record { mode = m; depth = d; width = w; height = h; flips = flips; discarding = discarding; limit = limit; stored = 0; discarded = 0 }

abbrev pub no_set : Set
no_set = new_set 0 0 0 0 false false 0

-- The answer of a call: the set as it is done, or the one that a refusal gives.
abbrev pub answered_set : ℕ → Set → Set → SetAnswer
answered_set n done refused = record { refusal = n; set = unless n done refused }

-- How many tiles fit: the least of some bounds, one at least, and of the limit if it is not 0.
unfoldable pub room_under : ℕ → ℕ → List ℕ → ℕ
room_under limit most [] = cond (eqb limit 0) most (min most limit)
room_under limit most (bound ∷ bounds) = room_under limit (min most bound) bounds

-- "Room is the least of 65,535, the store's whole tiles, and the limit if not 0."
unfoldable pub set_room : ℕ → ℕ → ℕ
set_room limit whole = room_under limit 65535 (whole ∷ [])

abbrev pub area : Set → ℕ
area z = z.width * z.height

abbrev pub room_in : Set → ℕ → ℕ
room_in z len = set_room z.limit (len / area z)

-- "Set state counts more tiles than its room": checked wherever a set comes with its store, of so many pixels.
abbrev pub held_checks : Set → ℕ → List ℕ
held_checks z len = set_checks z.mode z.depth z.width z.height ++ 6 when ltb (room_in z len) z.stored ∷ []

unfoldable pub held_says : Set → ℕ → ℕ
held_says z len = first_applying (held_checks z len)

-- A look-up, of a tile of so many pixels.
abbrev pub look_checks : Set → ℕ → ℕ → List ℕ
look_checks z len given = held_checks z len ++ 7 when not (eqb given (area z)) ∷ []

unfoldable pub look_says : Set → ℕ → ℕ → ℕ
look_says z len given = first_applying (look_checks z len given)
