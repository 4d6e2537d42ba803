-- "Take the picture in strips": a run, its strips and its end. A strip is converted as a picture of its own rows, after the tiles and entries that
-- are written.
-- Assumes nothing.
use Rattle.std.specs.Prelude.{◌≡◌, false, not, ◌&&◌, ◌||◌, List, [], ◌∷◌, ◌++◌, ℕ, ◌+◌, ◌-◌, ◌*◌, ◌/◌, ◌%◌, ◌^◌, ltb, eqb, length}
use Rattle.words.specs.Answers.{◌when◌, first_applying, unless}
use Rattle.mode.specs.Table.{row}
use Rattle.mapentry.specs.Entry.{misfit_of, misfit_says}
use Rattle.tileset.specs.Sets.{room_under}
use Rattle.picture.specs.Entries.{entry_as}
use Rattle.picture.specs.Converting.{places, picture_room, size_checks, pictured}
use Rattle.picture.specs.Continuing.{unpacked_tiles, stored_after, discarded_after, goes_on_checks, GoesOn}
use Rattle.picture.specs.declared.Settings.{Settings}
use Rattle.picture.specs.declared.Picture.{Picture}
use Rattle.strip.specs.declared.Run.{Run}
use Rattle.strip.specs.declared.RunAnswer.{RunAnswer}

-- ---- the record

-- The settings of the run's picture; and a picture of so many rows by them.
abbrev pub settings_of : Run → Settings
settings_of r =
    record {
      mode = r.mode;
      depth = r.depth;
      flip = r.flip;
      discard = r.discard;
      limit = r.limit;
      palette = r.palette;
      columns = r.columns;
      rows = r.rows;
    }

abbrev pub rows_of : Settings → ℕ → Settings
rows_of z n =
    record {
      mode = z.mode;
      depth = z.depth;
      flip = z.flip;
      discard = z.discard;
      limit = z.limit;
      palette = z.palette;
      columns = z.columns;
      rows = n;
    }

-- The record after so many rows, tiles and discards; "A run starts with the settings".
abbrev pub run_at : Settings → ℕ → ℕ → ℕ → Run
run_at z taken tiles discarded =
    record {
      mode = z.mode;
      depth = z.depth;
      flip = z.flip;
      discard = z.discard;
      limit = z.limit;
      palette = z.palette;
      columns = z.columns;
      rows = z.rows;
      taken = taken;
      tiles = tiles;
      discarded = discarded;
    }

-- "A refusal returns its number, all else returned 0."
abbrev pub no_run : Run
no_run =
    record {
      mode = 0;
      depth = 0;
      flip = false;
      discard = false;
      limit = 0;
      palette = 0;
      columns = 0;
      rows = 0;
      taken = 0;
      tiles = 0;
      discarded = 0;
    }

abbrev pub started : ℕ → Settings → RunAnswer
started n z = record { refusal = n; run = unless n (run_at z 0 0 0) no_run }

-- ---- the checks, in their order

-- A mode, depth, size and flips that pictures may have: how the checks of all three calls begin.
abbrev pub settings_checks : Settings → List ℕ
settings_checks z = size_checks z.mode z.depth z.columns z.rows ++ 5 when (z.flip && eqb (row z.mode).flips 0) ∷ []

-- "a picture's palette index too large": its field's number.
abbrev pub palette_check : Settings → ℕ
palette_check z = misfit_says (misfit_of z.mode (entry_as 0 z.palette false false))

unfoldable pub start_says : Settings → ℕ
start_says z = first_applying (settings_checks z ++ palette_check z ∷ [])

-- "6 also for a record that counts more tiles than its room or more rows than its picture".
abbrev pub record_checks : Run → ℕ → List ℕ
record_checks r room = settings_checks (settings_of r) ++ 6 when (ltb room r.tiles || ltb r.rows r.taken) ∷ []

-- A tile row has 64 x columns bytes.
abbrev pub row_length : Run → ℕ
row_length r = 64 * r.columns

-- The strip's picture, and the tiles that it comes after.
abbrev pub strip_of : Run → List ℕ → Settings
strip_of r pixels = rows_of (settings_of r) (length pixels / row_length r)

abbrev pub written_by : Run → List ℕ → List (List ℕ)
written_by r tiles = unpacked_tiles (settings_of r) tiles r.tiles

-- "19 end before the last row or a strip past it, checked after 6; a strip that is not whole rows, or is empty, is 7." "The map buffer must hold the
-- whole picture's map at every strip, else 11."
abbrev pub length_checks : Run → ℕ → ℕ → List ℕ
length_checks r len map_space =
    19 when ltb ((r.rows - r.taken) * row_length r) len
    ∷ 7 when not (ltb 0 len && eqb (len % row_length r) 0)
    ∷ palette_check (settings_of r)
    ∷ 11 when ltb map_space (places (settings_of r) * (row r.mode).entry)
    ∷ []

abbrev pub strip_checks : Run → ℕ → ℕ → ℕ → List ℕ
strip_checks r len tile_space map_space = record_checks r (picture_room (settings_of r) tile_space) ++ length_checks r len map_space

abbrev pub take_checks : Run → List ℕ → List ℕ → ℕ → List ℕ
take_checks r pixels tiles map_space =
    strip_checks r (length pixels) (length tiles) map_space ++ goes_on_checks (strip_of r pixels) pixels (written_by r tiles) r.discarded (length tiles)

unfoldable pub take_says : Run → List ℕ → List ℕ → ℕ → ℕ
take_says r pixels tiles map_space = first_applying (take_checks r pixels tiles map_space)

-- "Asking to end early is refused, and the run goes on." The end has no buffer: the limit and the tile bits are its room.
abbrev pub end_checks : Run → List ℕ
end_checks r =
    record_checks r (room_under r.limit (2 ^ (row r.mode).tile) [])
    ++ 19 when ltb r.taken r.rows
    ∷ palette_check (settings_of r)
    ∷ []

unfoldable pub end_says : Run → ℕ
end_says r = first_applying (end_checks r)

-- ---- the promises

-- The record that an accepted strip leaves.
abbrev pub run_after : Run → List ℕ → List ℕ → Run
run_after r pixels tiles =
    run_at (settings_of r) (r.taken + length pixels / row_length r) (length (stored_after (strip_of r pixels) pixels (written_by r tiles)))
    (r.discarded + discarded_after (strip_of r pixels) pixels (written_by r tiles))

-- An answer with the record that is left.
pub record Stepped : Type 0 where
  pub picture : Picture
  pub run : Run

abbrev pub stepped : Picture → Run → Stepped
stepped p r = record { picture = p; run = r }

-- Of a strip: its answer, both lent buffers, and the record. "A refused strip changes neither record nor buffers; bytes of earlier strips stay."
pub record Takes (refusal : ℕ) (r : Run) (pixels tiles map : List ℕ) (s : Stepped) (tiles_after map_after : List ℕ) : Type 0 where
  pub converts : GoesOn refusal (strip_of r pixels) pixels (written_by r tiles) r.discarded (r.taken * r.columns) tiles map s.picture tiles_after map_after
  pub run : s.run ≡ unless refusal (run_after r pixels tiles) r

-- Of the end: the whole picture's counts and lengths.
abbrev pub ended : ℕ → Run → Picture
ended n r = pictured n r.tiles r.discarded (r.tiles * (r.depth * 8)) (places (settings_of r) * (row r.mode).entry)
