-- The keys of the program's lines: "each key=text and a newline".
-- Assumes nothing.
use Rattle.std.specs.Prelude.{ℕ, Bool, true, false, List, [], ◌∷◌, ◌++◌, codes}
use Rattle.sheet.specs.declared.keys.Key.{Key}
use Rattle.sheet.specs.declared.keys.Key.TheVariants.{Mode, Depth, Flip, Discard, Limit, Palette, Columns, Rows, Tiles, Discarded, TileBytes, MapBytes, Refused}

-- Each with its `=`: those of the eight lines that the program reads, "in this order .. mode, depth, flip, discard, limit, palette, columns, rows", then
-- tiles, discarded, tilebytes, mapbytes, refused.
unfoldable pub key_of : Key → List ℕ
key_of Mode = codes "mode="
key_of Depth = codes "depth="
key_of Flip = codes "flip="
key_of Discard = codes "discard="
key_of Limit = codes "limit="
key_of Palette = codes "palette="
key_of Columns = codes "columns="
key_of Rows = codes "rows="
key_of Tiles = codes "tiles="
key_of Discarded = codes "discarded="
key_of TileBytes = codes "tilebytes="
key_of MapBytes = codes "mapbytes="
key_of Refused = codes "refused="

abbrev pub newline : ℕ
newline = 10

-- A line: "key=text and a newline".
unfoldable pub line_of : Key → List ℕ → List ℕ
line_of key text = key_of key ++ text ++ newline ∷ []

-- The text of the mode's line is a name, and never read as a number.
abbrev pub is_name : Key → Bool
is_name Mode = true
is_name Depth = false
is_name Flip = false
is_name Discard = false
is_name Limit = false
is_name Palette = false
is_name Columns = false
is_name Rows = false
is_name Tiles = false
is_name Discarded = false
is_name TileBytes = false
is_name MapBytes = false
is_name Refused = false
