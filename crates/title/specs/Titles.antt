-- "Give each title its own set plus a common store that neither writes": the calls of a title, by the set's own definitions. The common store has
-- count tiles of the size of the title's set.
-- Assumes nothing.
use Rattle.std.specs.Prelude.{Bool, false, not, cond, List, [], ◌∷◌, ◌++◌, ℕ, ◌+◌, ◌*◌, ◌/◌, ◌-◌, min, ltb, eqb, length, take, drop}
use Rattle.words.specs.Answers.{◌when◌, first_applying, unless}
use Rattle.tileset.specs.Sets.{area, room_in, held_checks}
use Rattle.tileset.specs.Finding.{cut_to, tiles_in, logical, look_up, is_found, no_place, place_of}
use Rattle.tileset.specs.Adding.{end_checks, added_by, store_by, Adds}
use Rattle.tileset.specs.History.{set_tiles}
use Rattle.tileset.specs.declared.Set.{Set}
use Rattle.tileset.specs.declared.SetAnswer.{SetAnswer}
use Rattle.tileset.specs.declared.Place.{Place}
use Rattle.tileset.specs.declared.Found.{Found}
use Rattle.tileset.specs.declared.Found.TheVariants.{At, Nothing}
use Rattle.title.specs.declared.Held.{Held}

-- ---- looking up

-- "Look-up tries the common store first, then the title's own": the tiles that it tries, in one list. So "Place numbers of own tiles start after the
-- common count": a place is a place in this list.
abbrev pub common_tiles : Set → ℕ → List ℕ → List (List ℕ)
common_tiles z count common = tiles_in (area z) common count

abbrev pub title_tiles : Set → ℕ → List ℕ → List ℕ → List (List ℕ)
title_tiles z count common store = common_tiles z count common ++ set_tiles z store

unfoldable pub title_found : Set → ℕ → List ℕ → List ℕ → List ℕ → Found
title_found z count common store pixels =
    look_up z.flips z.width z.height (title_tiles z count common store) (cut_to z.depth pixels)

-- What is found among the own tiles, as a title counts places.
abbrev pub after_common : ℕ → Found → Found
after_common count (At k f) = At (logical (count + k.0)) f
after_common count Nothing = Nothing

-- "6 also when the common count exceeds its store or the counts pass 65,535", after the checks of the set with its own store. The common store has
-- shared pixels, the own one len, and the tile given.
abbrev pub title_checks : Set → ℕ → ℕ → ℕ → ℕ → List ℕ
title_checks z count shared len given =
    held_checks z len
    ++ 6 when ltb (shared / area z) count
    ∷ 6 when ltb 65535 (count + z.stored)
    ∷ 7 when not (eqb given (area z))
    ∷ []

unfoldable pub title_says : Set → ℕ → ℕ → ℕ → ℕ → ℕ
title_says z count shared len given = first_applying (title_checks z count shared len given)

-- "the tile's pixels are handed back as a part of whichever of the two lent stores holds it, an empty part if nothing is found": which store it is,
-- the tile's place there, and where its part begins and how long it is.
abbrev pub is_common : ℕ → Found → Bool
is_common count (At k f) = ltb k.0 count
is_common count Nothing = false

abbrev pub place_there : ℕ → ℕ → ℕ
place_there count k = cond (ltb k count) k (k - count)

abbrev pub part_start : Set → ℕ → Found → ℕ
part_start z count (At k f) = place_there count k.0 * area z
part_start z count Nothing = 0

abbrev pub part_length : Set → Found → ℕ
part_length z found = cond (is_found found) (area z) 0

unfoldable pub part_of : Set → ℕ → List ℕ → List ℕ → Found → List ℕ
part_of z count common store found =
    take (part_length z found) (drop (part_start z count found) (cond (is_common count found) common store))

-- The answer's values: the place as a set's look-up gives it, and the part.
abbrev pub held_at : Place → Bool → ℕ → ℕ → Held
held_at p common at len =
    record { refusal = p.refusal; found = p.found; place = p.place; flip_h = p.flip_h; flip_v = p.flip_v; common = common; at = at; len = len }

abbrev pub no_held : ℕ → Held
no_held n = held_at (no_place n) false 0 0

abbrev pub held_of : Set → ℕ → Found → Held
held_of z count found = held_at (place_of found) (is_common count found) (part_start z count found) (part_length z found)

abbrev pub held_by : ℕ → Set → ℕ → Found → Held
held_by n z count found = unless n (held_of z count found) (no_held n)

abbrev pub title_held : Set → ℕ → List ℕ → List ℕ → List ℕ → Held
title_held z count common store pixels =
    held_by (title_says z count (length common) (length store) (length pixels)) z count (title_found z count common store pixels)

-- ---- adding: as to a set, with what is found among the title's tiles, and its room

-- "Room is that of the title's own set, and common count plus own count may not pass 65,535": "12 also when one more tile would pass it".
abbrev pub title_room : Set → ℕ → ℕ → ℕ
title_room z count len = min (room_in z len) (65535 - count)

abbrev pub title_add_checks : Set → ℕ → List ℕ → List ℕ → List ℕ → List ℕ
title_add_checks z count common store pixels =
    title_checks z count (length common) (length store) (length pixels)
    ++ end_checks z (title_found z count common store pixels) (title_room z count (length store))

unfoldable pub title_add_says : Set → ℕ → List ℕ → List ℕ → List ℕ → ℕ
title_add_says z count common store pixels = first_applying (title_add_checks z count common store pixels)

-- "With discarding on a common match counts as discarded; with it off every added tile is stored."
abbrev pub AddsToTitle : Set → ℕ → List ℕ → List ℕ → List ℕ → SetAnswer → List ℕ → Type 0
AddsToTitle z count common store pixels r after =
    let found = title_found z count common store pixels in
    Adds (title_add_says z count common store pixels) z (added_by z found) store (store_by z found store pixels) r after
