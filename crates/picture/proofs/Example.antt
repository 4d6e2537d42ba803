-- Document 01's example of the program, computed.
-- Assumes nothing.
use mathlib.Core.Path.{◌≡◌, refl}
use mathlib.Core.Bool.{true}
use mathlib.Core.List.{List, [], ◌∷◌}
use Prim.Native.Nat.{ℕ}
use lib.ListN.{replicate, set}
use Rattle.mode.specs.Table.{row}
use Rattle.mapentry.specs.Entry.{layout}
use Rattle.tile.specs.Bits.{from_bits, table}
use Rattle.tile.specs.Layout.{spread}
use Rattle.tile.specs.Tile.{packing_of}
use Rattle.flip.specs.Flips.{flip_at, flipped}
use Rattle.flip.specs.Matching.{match_flip}
use Rattle.tileset.specs.Sets.{room_under}
use Rattle.tileset.specs.Finding.{cut_to, look_up}
use Rattle.tileset.specs.Numbers.{starts_at}
use Rattle.picture.specs.Cells.{pixel_at, cut_tile, cut_tiles}
use Rattle.tileset.specs.Keeping.{keep, kept, need, discarded}
use Rattle.picture.specs.Converting.{picture_tiles, stored_of, need_of, discarded_of, tile_bytes_of, found_at, map_bytes_of, picture_room, size_says, convert_says, answer_of}
use Rattle.picture.specs.declared.Settings.{Settings}

-- "With limit and palette 0, left tile 1 at its top left, right tile 1 at its top right, else 0"
abbrev example : Settings
example = record { mode = 0; depth = 2; flip = true; discard = true; limit = 0; palette = 0; columns = 2; rows = 1 }

abbrev example_pixels : List ℕ
example_pixels = set (set (replicate 128 0) 0 1) 15 1

-- "tiles=1", "discarded=1", "tilebytes=16", "mapbytes=4": "the tile buffer has 65,536 bytes", and the map four
pub example-answer : answer_of (convert_says example example_pixels 65536 4) example example_pixels
    ≡ record { refusal = 0; tiles = 1; discarded = 1; tile_bytes = 16; map_bytes = 4 }
unfolding row layout from_bits table spread packing_of flip_at flipped match_flip cut_to look_up pixel_at cut_tile cut_tiles keep kept need discarded picture_tiles stored_of need_of discarded_of tile_bytes_of found_at map_bytes_of picture_room room_under size_says convert_says
example-answer = refl

-- "80 00, fourteen 00"
pub example-tiles : tile_bytes_of example example_pixels ≡ 128 ∷ replicate 15 0
unfolding row layout from_bits table spread packing_of flip_at flipped match_flip cut_to look_up pixel_at cut_tile cut_tiles keep kept picture_tiles stored_of tile_bytes_of
example-tiles = refl

-- "then 00 00 00 40"
pub example-map : map_bytes_of example example_pixels ≡ 0 ∷ 0 ∷ 0 ∷ 64 ∷ []
unfolding row layout from_bits table spread packing_of flip_at flipped match_flip cut_to look_up pixel_at cut_tile cut_tiles keep kept picture_tiles stored_of found_at map_bytes_of starts_at
example-map = refl
