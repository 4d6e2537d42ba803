-- A conversion that goes on: after tiles whose bytes are written already, and entries that are. A whole picture goes on after none.
-- Assumes nothing.
use Rattle.std.specs.Prelude.{◌≡◌, List, [], ◌∷◌, map, ℕ, ◌+◌, ◌-◌, ◌*◌, ltb, length, get_or}
use Rattle.std.proofs.lemmas.List.Edits.{sets}
use Rattle.words.specs.Answers.{◌when◌, unless}
use Rattle.words.specs.Loops.{each}
use Rattle.mode.specs.Table.{row}
use Rattle.mapentry.specs.Entry.{entry_bytes}
use Rattle.tile.specs.Tile.{packed, unpacked}
use Rattle.tileset.specs.Finding.{tiles_in, look_up}
use Rattle.tileset.specs.Keeping.{keep_all, repeats}
use Rattle.tileset.specs.declared.Found.{Found}
use Rattle.picture.specs.Entries.{entry_for}
use Rattle.picture.specs.Converting.{places, picture_tiles, picture_room, pictured}
use Rattle.picture.specs.declared.Settings.{Settings}
use Rattle.picture.specs.declared.Picture.{Picture}

-- "Matching must be against the tile bytes already written": so many tiles, unpacked from their bytes.
abbrev pub unpacked_tiles : Settings → List ℕ → ℕ → List (List ℕ)
unpacked_tiles z bytes count = map (unpacked z.mode z.depth 8 8) (tiles_in (z.depth * 8) bytes count)

-- The picture's tiles are taken after those that it had: what is stored then, how many were discarded, and where tile i is found.
unfoldable pub stored_after : Settings → List ℕ → List (List ℕ) → List (List ℕ)
stored_after z pixels had = keep_all z.discard z.flip 8 8 had (picture_tiles 8 8 z pixels)

unfoldable pub discarded_after : Settings → List ℕ → List (List ℕ) → ℕ
discarded_after z pixels had = repeats z.discard z.flip 8 8 had (picture_tiles 8 8 z pixels)

unfoldable pub found_after : Settings → List ℕ → List (List ℕ) → ℕ → Found
found_after z pixels had i = look_up z.flip 8 8 (stored_after z pixels had) (get_or (picture_tiles 8 8 z pixels) i [])

-- The bytes of the tiles that are new, and of the picture's entries.
unfoldable pub tile_bytes_after : Settings → List ℕ → List (List ℕ) → List ℕ
tile_bytes_after z pixels had =
    each (length (stored_after z pixels had) - length had) (λ k. packed z.mode z.depth 8 8 (get_or (stored_after z pixels had) (length had + k) []))

unfoldable pub map_bytes_after : Settings → List ℕ → List (List ℕ) → List ℕ
map_bytes_after z pixels had = each (places z) (λ i. entry_bytes z.mode (entry_for z.mode 8 8 z.palette (found_after z pixels had i)))

-- "No room for the tiles" (12), and the discard counter past 4,294,967,295 (13): where so many were discarded before, in a tile buffer of so many bytes.
abbrev pub goes_on_checks : Settings → List ℕ → List (List ℕ) → ℕ → ℕ → List ℕ
goes_on_checks z pixels had discarded tile_space =
    12 when ltb (picture_room z tile_space) (length (stored_after z pixels had))
    ∷ 13 when ltb 4294967295 (discarded + discarded_after z pixels had)
    ∷ []

-- The promise: the counts and lengths so far, and both lent buffers, in which the bytes before and after its own stay. So many were discarded before,
-- and so many entries are written.
pub record GoesOn (refusal : ℕ) (z : Settings) (pixels : List ℕ) (had : List (List ℕ)) (discarded first : ℕ) (tiles map : List ℕ)
    (r : Picture) (tiles_after map_after : List ℕ) : Type 0 where
  pub answer : r ≡ pictured refusal (length (stored_after z pixels had)) (discarded + discarded_after z pixels had)
      (length (stored_after z pixels had) * (z.depth * 8)) ((first + places z) * (row z.mode).entry)
  pub lent : tiles_after ≡ unless refusal (sets tiles (length had * (z.depth * 8)) (tile_bytes_after z pixels had)) tiles
  pub also_lent : map_after ≡ unless refusal (sets map (first * (row z.mode).entry) (map_bytes_after z pixels had)) map
