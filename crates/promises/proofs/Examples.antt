-- Document 01's marked examples, as one table under one statement.
-- Assumes nothing.
use mathlib.Core.Bool.{Bool, true, false, ◌&&◌}
use mathlib.Core.List.{List, [], ◌∷◌, ◌++◌}
use Prim.Native.Nat.{ℕ, ◌/◌}
use lib.Dec.{T, eqb}
use lib.ListN.{length, replicate}
use Rattle.words.specs.Bytes.{same}
use Rattle.mode.specs.Table.{row}
use Rattle.color.specs.Color as color
use Rattle.mapentry.specs.Entry as entry
use Rattle.tile.specs.Bits.{from_bits, table}
use Rattle.tile.specs.Layout.{spread}
use Rattle.tile.specs.Tile as tile
use Rattle.tileset.specs.Sets.{new_set, with_counts, room_under, set_room, set_says, held_says}
use Rattle.tileset.specs.Numbers.{starts_at, belongs_to, first_cell, tile_of, grid_says, native_says, logical_says}
use Rattle.tileset.specs.Writing.{padded_cells, cell_count, corner_of, cell_pixels, set_bytes, write_size, write_says}
use Rattle.tileset.specs.Reading.{whole_tiles, unit_bytes, read_count, read_says}
use Rattle.tileset.specs.declared.Set.{Set}
use Rattle.rumchivoat.specs.Station.{entry_from}

-- What a call answers and writes, and what document 01 has.
pub record Example : Type 0 where
  pub says : ℕ
  pub bytes : List ℕ
  pub refusal : ℕ
  pub expected : List ℕ

-- a tile of a mode at a depth, with its width and height, into a buffer of 128 bytes
tiles : ℕ → ℕ → ℕ → ℕ → List ℕ → List ℕ → Example
tiles m d w h pixels expected =
    record { says = tile.pack_says m d w h pixels 128; bytes = tile.packed m d w h pixels; refusal = 0; expected = expected }

-- first row 0 1 2 3 0 1 2 3, else 0
stripes : List ℕ
stripes = (0 ∷ 1 ∷ 2 ∷ 3 ∷ 0 ∷ 1 ∷ 2 ∷ 3 ∷ []) ++ replicate 56 0

-- pixels 1, 2, else 0
one_two : List ℕ
one_two = 1 ∷ 2 ∷ replicate 62 0

-- colours, four bytes each, into a buffer of 64 bytes
colors : ℕ → List ℕ → List ℕ → Example
colors m cs expected = record { says = color.pack_says m cs 64; bytes = color.packed m cs; refusal = 0; expected = expected }

-- an entry into a buffer of 64 bytes
packs : ℕ → ℕ → ℕ → Bool → Bool → Bool → List ℕ → Example
packs m t p h v q expected =
    record { says = entry.pack_says m (entry_from t p h v q) 64; bytes = entry.entry_bytes m (entry_from t p h v q); refusal = 0; expected = expected }

refuses : ℕ → ℕ → ℕ → Bool → Bool → Bool → ℕ → Example
refuses m t p h v q refusal =
    record { says = entry.pack_says m (entry_from t p h v q) 64; bytes = []; refusal = refusal; expected = [] }

gray : ℕ → List ℕ → List ℕ
gray g rest = g ∷ g ∷ g ∷ 255 ∷ rest

-- a number that a call answers
answers : ℕ → ℕ → ℕ → Example
answers says value expected = record { says = says; bytes = value ∷ []; refusal = 0; expected = expected ∷ [] }

-- nine snes tiles of 16x16, depth 2, blank
nine : Set
nine = with_counts (new_set 0 2 16 16 false false 0) 9 0

blanks : List ℕ
blanks = replicate 2304 0

pub examples : List Example
examples =
    -- (a) snes depth 2, first row 0 1 2 3 0 1 2 3, else 0: 55 33, fourteen 00
    tiles 0 2 8 8 stripes (0x55 ∷ 0x33 ∷ replicate 14 0)
    -- (b) ngp, same: 1b 1b, fourteen 00
    ∷ tiles 11 2 8 8 stripes (0x1b ∷ 0x1b ∷ replicate 14 0)
    -- (c) pixels 1, 2: gba 21, wsc_packed 12
    ∷ tiles 4 4 8 8 one_two (0x21 ∷ replicate 31 0)
    ∷ tiles 15 4 8 8 one_two (0x12 ∷ replicate 31 0)
    -- (d) pce_sprite 16x16, only (9,0) = 8: byte 97 is 02
    ∷ tiles 10 4 16 16 (replicate 9 0 ++ 8 ∷ replicate 246 0) (replicate 97 0 ++ 0x02 ∷ replicate 30 0)
    -- (e) snes (31,0,16): 1f 40
    ∷ colors 0 (31 ∷ 0 ∷ 16 ∷ 255 ∷ []) (0x1f ∷ 0x40 ∷ [])
    -- (f) md (7,1,4): 08 2e
    ∷ colors 6 (7 ∷ 1 ∷ 4 ∷ 255 ∷ []) (0x08 ∷ 0x2e ∷ [])
    -- (g) gb grays 3 2 1 0: e4
    ∷ colors 2 (gray 3 (gray 2 (gray 1 (gray 0 [])))) (0xe4 ∷ [])
    -- (h) ws 7 5 2 0: 20 75
    ∷ colors 13 (gray 7 (gray 5 (gray 2 (gray 0 [])))) (0x20 ∷ 0x75 ∷ [])
    -- (i) snes entry 513, palette 5, h, priority: 01 76
    ∷ packs 0 513 5 true false true (0x01 ∷ 0x76 ∷ [])
    -- (j) md 801, palette 2, v: 53 21
    ∷ packs 6 801 2 false true false (0x53 ∷ 0x21 ∷ [])
    -- (k) pce 4095, 15: ff ff; 4096: 15; h: 17
    ∷ packs 9 4095 15 false false false (0xff ∷ 0xff ∷ [])
    ∷ refuses 9 4096 15 false false false 15
    ∷ refuses 9 4095 15 true false false 17
    -- (l) snes 16x16: tile 8 at 32, cell 33 in tile 8; nine tiles write 64 cells and read as 16
    ∷ answers (native_says 0 16 16 8) (first_cell 0 16 16 8) 32
    ∷ answers (logical_says 0 16 16 33) (tile_of 0 16 16 33) 8
    ∷ answers (write_says nine blanks 1024) (length (set_bytes nine blanks) / 16) 64
    ∷ answers (read_says 0 2 16 16 1024 4096) (read_count 0 2 16 16 1024) 16
    ∷ []

pub holds : List Example → Bool
holds [] = true
holds (e ∷ es) = (eqb e.says e.refusal && same e.bytes e.expected) && holds es

pub examples-hold : T (holds examples)
unfolding holds examples tiles stripes one_two spread table from_bits tile.packing_of tile.pack_says colors packs refuses gray row color.coloring color.packed color.pack_says entry.layout entry.entry_says entry.pack_says answers nine blanks set_room room_under set_says held_says starts_at belongs_to grid_says native_says padded_cells cell_count corner_of cell_pixels set_bytes write_size write_says whole_tiles unit_bytes read_count read_says
examples-hold = tt
