-- Conversion: "Columns x rows of tiles, row-major pixels, 64 x columns x rows bytes."
-- Assumes nothing.
use Rattle.std.specs.Prelude.{◌≡◌, Bool, false, not, ◌&&◌, List, [], ◌∷◌, ◌++◌, ℕ, ◌*◌, ◌/◌, ◌^◌, leb, ltb, eqb, length, get_or}
use Rattle.words.specs.Answers.{◌when◌, first_applying, unless, overwrite}
use Rattle.words.specs.Loops.{each}
use Rattle.mode.specs.Table.{row, has_depth, pce-sprite}
use Rattle.mapentry.specs.Entry.{misfit_of, misfit_says, entry_bytes}
use Rattle.tile.specs.Tile.{packed}
use Rattle.tileset.specs.Sets.{room_under}
use Rattle.tileset.specs.Finding.{look_up}
use Rattle.picture.specs.Cells.{cut_tiles}
use Rattle.tileset.specs.Keeping.{kept, need, discarded}
use Rattle.picture.specs.Entries.{entry_as, entry_for}
use Rattle.tileset.specs.declared.Found.{Found}
use Rattle.picture.specs.declared.Settings.{Settings}
use Rattle.picture.specs.declared.Picture.{Picture}

abbrev pub places : Settings → ℕ
places z = z.columns * z.rows

-- Every tile of the picture, tiles being w wide and h high, and those that it stores.
unfoldable pub picture_tiles : ℕ → ℕ → Settings → List ℕ → List (List ℕ)
picture_tiles w h z pixels = cut_tiles z.depth w h z.columns pixels (places z)

unfoldable pub stored_of : ℕ → ℕ → Settings → List ℕ → List (List ℕ)
stored_of w h z pixels = kept z.discard z.flip w h (picture_tiles w h z pixels)

unfoldable pub need_of : ℕ → ℕ → Settings → List ℕ → ℕ
need_of w h z pixels = need z.discard z.flip w h (picture_tiles w h z pixels)

unfoldable pub discarded_of : ℕ → ℕ → Settings → List ℕ → ℕ
discarded_of w h z pixels = discarded z.discard z.flip w h (picture_tiles w h z pixels)

-- And where tile i is found among them.
unfoldable pub found_at : ℕ → ℕ → Settings → List ℕ → ℕ → Found
found_at w h z pixels i = look_up z.flip w h (stored_of w h z pixels) (get_or (picture_tiles w h z pixels) i [])

-- Its tile bytes, and its map bytes: "A native tile (no other is packed) is 8x8".
unfoldable pub tile_bytes_of : Settings → List ℕ → List ℕ
tile_bytes_of z pixels = each (length (stored_of 8 8 z pixels)) (λ k. packed z.mode z.depth 8 8 (get_or (stored_of 8 8 z pixels) k []))

unfoldable pub map_bytes_of : Settings → List ℕ → List ℕ
map_bytes_of z pixels = each (places z) (λ i. entry_bytes z.mode (entry_for z.mode 8 8 z.palette (found_at 8 8 z pixels i)))

-- "Room is the least of the limit if not 0, 2^(tile bits), and whole tiles in the tile buffer", of so many bytes.
unfoldable pub picture_room : Settings → ℕ → ℕ
picture_room z len = room_under z.limit (2 ^ (row z.mode).tile) (len / (z.depth * 8) ∷ [])

-- "Columns or rows outside 1..64" is 4. The checks of conversion and of redrawing begin alike.
abbrev pub is_span : ℕ → Bool
is_span n = ltb 0 n && leb n 64

abbrev pub size_checks : ℕ → ℕ → ℕ → ℕ → List ℕ
size_checks m d columns rows =
    1 when ltb 15 m
    ∷ 2 when eqb m pce-sprite
    ∷ 3 when not (has_depth m d)
    ∷ 4 when not (is_span columns && is_span rows)
    ∷ []

unfoldable pub size_says : ℕ → ℕ → ℕ → ℕ → ℕ
size_says m d columns rows = first_applying (size_checks m d columns rows)

-- "Picture with flips on in a mode without flips" (5), "input length not the one required" (7), "a picture's palette index too large" (its field's
-- number), "output buffer shorter than the bytes to be written" (11, the map), "no room for the tiles" (12). In: the lengths of pixels, tile buffer
-- and map.
abbrev pub asked_checks : Settings → ℕ → ℕ → List ℕ
asked_checks z len map_space =
    size_checks z.mode z.depth z.columns z.rows
    ++ 5 when (z.flip && eqb (row z.mode).flips 0)
    ∷ 7 when not (eqb len (64 * places z))
    ∷ misfit_says (misfit_of z.mode (entry_as 0 z.palette false false))
    ∷ 11 when ltb map_space (places z * (row z.mode).entry)
    ∷ []

abbrev pub convert_checks : Settings → List ℕ → ℕ → ℕ → List ℕ
convert_checks z pixels tile_space map_space =
    asked_checks z (length pixels) map_space ++ 12 when ltb (picture_room z tile_space) (need_of 8 8 z pixels) ∷ []

unfoldable pub convert_says : Settings → List ℕ → ℕ → ℕ → ℕ
convert_says z pixels tile_space map_space = first_applying (convert_checks z pixels tile_space map_space)

-- "A refusal returns its number, all else returned 0."
abbrev pub pictured : ℕ → ℕ → ℕ → ℕ → ℕ → Picture
pictured n tiles discarded tile_length map_length =
    record {
      refusal = n;
      tiles = unless n tiles 0;
      discarded = unless n discarded 0;
      tile_bytes = unless n tile_length 0;
      map_bytes = unless n map_length 0;
    }

abbrev pub answer_of : ℕ → Settings → List ℕ → Picture
answer_of n z pixels =
    pictured n (length (stored_of 8 8 z pixels)) (discarded_of 8 8 z pixels) (length (tile_bytes_of z pixels)) (length (map_bytes_of z pixels))

-- The promise of a conversion: its answer, and both lent buffers as it leaves them.
pub record Converts (refusal : ℕ) (z : Settings) (pixels tiles map : List ℕ) (r : Picture) (tiles_after map_after : List ℕ) : Type 0 where
  pub answer : r ≡ answer_of refusal z pixels
  pub lent : tiles_after ≡ unless refusal (overwrite tiles (tile_bytes_of z pixels)) tiles
  pub also_lent : map_after ≡ unless refusal (overwrite map (map_bytes_of z pixels)) map
