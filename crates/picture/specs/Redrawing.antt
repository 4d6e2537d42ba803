-- "Redrawing takes mode, depth, columns, rows, tile bytes in whole tiles and exactly the map's bytes, and writes 64 x columns x rows pixels; each
-- entry draws its tile under its flip."
-- Assumes nothing.
use Rattle.std.specs.Prelude.{Bool, not, List, [], ◌∷◌, ◌++◌, ℕ, ◌*◌, ◌/◌, ◌%◌, leb, ltb, eqb, length, get_or, take, drop}
use Rattle.words.specs.Answers.{◌when◌, first_applying}
use Rattle.words.specs.Loops.{each, some}
use Rattle.mode.specs.Table.{row}
use Rattle.mapentry.specs.Entry.{entry_of}
use Rattle.mapentry.specs.declared.Mapentry.{Mapentry}
use Rattle.tile.specs.Tile.{unpacked}
use Rattle.flip.specs.Flips.{flip, flipped}
use Rattle.picture.specs.Cells.{tile_over, place_over}
use Rattle.picture.specs.Entries.{tile_named}
use Rattle.picture.specs.Converting.{size_checks}

-- Entry i of a map.
unfoldable pub entry_at : ℕ → List ℕ → ℕ → Mapentry
entry_at m map i = entry_of m (take (row m).entry (drop (i * (row m).entry) map))

-- The tile that an entry draws.
unfoldable pub drawn_tile : ℕ → ℕ → List ℕ → Mapentry → List ℕ
drawn_tile m d tiles e =
    flipped (flip e.flip_h e.flip_v) 8 8 (unpacked m d 8 8 (take (d * 8) (drop (tile_named m 8 8 e * (d * 8)) tiles)))

-- Every pixel of a picture of so many tiles, w wide and h high, from the tile it stands in.
abbrev pub laid : ℕ → ℕ → ℕ → ℕ → (ℕ → List ℕ) → List ℕ
laid w h columns count tile = each (w * h * count) (λ o. get_or (tile (tile_over w h columns o)) (place_over w h columns o) 0 ∷ [])

unfoldable pub drawn : ℕ → ℕ → ℕ → ℕ → List ℕ → List ℕ → List ℕ
drawn m d columns rows tiles map = laid 8 8 columns (columns * rows) (λ i. drawn_tile m d tiles (entry_at m map i))

-- "Input length not the one required; in redrawing also tile bytes that end before a tile the map names" (7).
abbrev pub names_more : ℕ → ℕ → ℕ → List ℕ → ℕ → Bool
names_more m d len map i = leb (len / (d * 8)) (tile_named m 8 8 (entry_at m map i))

abbrev pub redraw_checks : ℕ → ℕ → ℕ → ℕ → List ℕ → List ℕ → ℕ → List ℕ
redraw_checks m d columns rows tiles map space =
    size_checks m d columns rows
    ++ 7 when not (eqb (length tiles % (d * 8)) 0)
    ∷ 7 when not (eqb (length map) (columns * rows * (row m).entry))
    ∷ 7 when some (columns * rows) (names_more m d (length tiles) map)
    ∷ 11 when ltb space (64 * (columns * rows))
    ∷ []

unfoldable pub redraw_says : ℕ → ℕ → ℕ → ℕ → List ℕ → List ℕ → ℕ → ℕ
redraw_says m d columns rows tiles map space = first_applying (redraw_checks m d columns rows tiles map space)
