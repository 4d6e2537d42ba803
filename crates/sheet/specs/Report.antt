-- What the program writes before the bytes: "all of the output" of document 01's example, line by line, or a refusal.
-- Assumes nothing.
use Rattle.std.specs.Prelude.{ℕ, List, [], ◌∷◌, ◌++◌, length, get_or}
use Rattle.words.specs.Bytes.{bit}
use Rattle.words.specs.Loops.{each}
use Rattle.mode.specs.Names.{name_of}
use Rattle.picture.specs.declared.Settings.{Settings}
use Rattle.picture.specs.declared.Picture.{Picture}
use Rattle.sheet.specs.Keys.{line_of}
use Rattle.sheet.specs.declared.keys.Key.{Key}
use Rattle.sheet.specs.declared.keys.Key.TheVariants.{Mode, Depth, Flip, Discard, Columns, Rows, Tiles, Discarded, TileBytes, MapBytes, Refused}
use Rattle.sheet.specs.Numbers.{decimal}

-- The report's lines of numbers: their keys, and what stands after each.
abbrev pub report_keys : List Key
report_keys = Depth ∷ Flip ∷ Discard ∷ Columns ∷ Rows ∷ Tiles ∷ Discarded ∷ TileBytes ∷ MapBytes ∷ []

abbrev pub report_values : Settings → Picture → List ℕ
report_values z p =
    z.depth
    ∷ bit z.flip
    ∷ bit z.discard
    ∷ z.columns
    ∷ z.rows
    ∷ p.tiles
    ∷ p.discarded
    ∷ p.tile_bytes
    ∷ p.map_bytes
    ∷ []

unfoldable pub number_line : List ℕ → ℕ → List ℕ
number_line values i = line_of (get_or report_keys i Depth) (decimal (get_or values i 0))

unfoldable pub report_text : Settings → Picture → List ℕ
report_text z p = line_of Mode (name_of z.mode) ++ each (length report_keys) (number_line (report_values z p))

-- "A refusal writes `refused=N` and a newline."
unfoldable pub refused_text : ℕ → List ℕ
refused_text n = line_of Refused (decimal n)
