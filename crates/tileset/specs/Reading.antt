-- "Reading takes whole cells (else 7), stops at the first incomplete tile and does not discard." Sprites are read "tile by tile, with no
-- padding", and "a length that is not whole tiles is 7".
-- Assumes nothing.
use Rattle.std.specs.Prelude.{Bool, true, not, cond, List, [], ◌∷◌, ◌++◌, ℕ, zero, suc, ◌+◌, ◌-◌, ◌*◌, ◌/◌, ◌%◌, ltb, eqb, length, get_or, take, drop, replicate}
use Rattle.words.specs.Answers.{◌when◌, first_applying, overwrite}
use Rattle.words.specs.Loops.{each}
use Rattle.mode.specs.Table.{pce-sprite}
use Rattle.tile.specs.Tile.{is_native, unpacked}
use Rattle.tileset.specs.Sets.{set_checks, no_set}
use Rattle.tileset.specs.Adding.{Adds}
use Rattle.tileset.specs.Numbers.{row_cells, starts_at, first_cell, tile_of}
use Rattle.tileset.specs.Writing.{cell_count}
use Rattle.tileset.specs.declared.Set.{Set}
use Rattle.tileset.specs.declared.SetAnswer.{SetAnswer}

-- With r, h, v for R, H, V: the last cell of tile n, in its last row and column.
abbrev pub last_cell : ℕ → ℕ → ℕ → ℕ → ℕ
last_cell r h v n = starts_at r h v n + (v - 1) * r + (h - 1)

-- How many of k tiles, from tile n on, come before the first whose last cell is not one of c cells.
abbrev pub whole_from : ℕ → ℕ → ℕ → ℕ → ℕ → ℕ → ℕ
whole_from r h v c n zero = 0
whole_from r h v c n (suc k) = cond (ltb (last_cell r h v n) c) (suc (whole_from r h v c (suc n) k)) 0

-- How many tiles come before the first incomplete one of c cells. They are at most c, since each has a cell of its own.
unfoldable pub whole_tiles : ℕ → ℕ → ℕ → ℕ → ℕ
whole_tiles r h v c = whole_from r h v c 0 c

-- The bytes of a tile by itself, and what reading takes whole: a sprite, or a cell.
abbrev pub tile_size : ℕ → ℕ → ℕ → ℕ
tile_size d w h = w * h * d / 8

unfoldable pub unit_bytes : ℕ → ℕ → ℕ → ℕ → ℕ
unit_bytes m d w h = cond (eqb m pce-sprite) (tile_size d w h) (d * 8)

-- How many tiles so many bytes hold: in pce_sprite one follows the other.
unfoldable pub read_count : ℕ → ℕ → ℕ → ℕ → ℕ → ℕ
read_count m d w h len = cond (eqb m pce-sprite) (len / tile_size d w h) (whole_tiles (row_cells m) (w / 8) (h / 8) (len / (d * 8)))

-- "takes whole cells (else 7)". "A store too short for them is 11; more than 65,535 tiles: 12." Of so many bytes, into a store of so many pixels.
abbrev pub read_checks : ℕ → ℕ → ℕ → ℕ → ℕ → ℕ → List ℕ
read_checks m d w h len space =
    set_checks m d w h
    ++ 7 when not (eqb (len % unit_bytes m d w h) 0)
    ∷ 11 when ltb space (read_count m d w h len * (w * h))
    ∷ 12 when ltb 65535 (read_count m d w h len)
    ∷ []

unfoldable pub read_says : ℕ → ℕ → ℕ → ℕ → ℕ → ℕ → ℕ
read_says m d w h len space = first_applying (read_checks m d w h len space)

-- "A read set has limit 0, discarding on, flips as given, discarded 0."
abbrev pub read_set : ℕ → ℕ → ℕ → ℕ → Bool → ℕ → Set
read_set m d w h flips count =
    record { mode = m; depth = d; width = w; height = h; flips = flips; discarding = true; limit = 0; stored = count; discarded = 0 }

-- The pixels of sprite n, and of cell c.
abbrev pub sprite_in : ℕ → ℕ → ℕ → ℕ → List ℕ → ℕ → List ℕ
sprite_in m d w h bytes n = unpacked m d w h (take (tile_size d w h) (drop (n * tile_size d w h) bytes))

abbrev pub cell_in : ℕ → ℕ → List ℕ → ℕ → List ℕ
cell_in m d bytes c = unpacked m d 8 8 (take (d * 8) (drop (c * (d * 8)) bytes))

-- Pixel (y, x) of tile n: of a sprite its own, else it stands in the cell in row y / 8 and column x / 8 of the tile.
unfoldable pub pixel_in : ℕ → ℕ → ℕ → ℕ → List ℕ → ℕ → ℕ → ℕ → ℕ
pixel_in m d w h bytes n y x =
    cond (eqb m pce-sprite) (get_or (sprite_in m d w h bytes n) (y * w + x) 0)
    (get_or (cell_in m d bytes (first_cell m w h n + y / 8 * row_cells m + x / 8)) (y % 8 * 8 + x % 8) 0)

-- The rows of a tile one after the other, and the tiles.
abbrev pub row_in : ℕ → ℕ → ℕ → ℕ → List ℕ → ℕ → ℕ → List ℕ
row_in m d w h bytes n y = each w (λ x. pixel_in m d w h bytes n y x ∷ [])

abbrev pub tile_in : ℕ → ℕ → ℕ → ℕ → List ℕ → ℕ → List ℕ
tile_in m d w h bytes n = each h (row_in m d w h bytes n)

unfoldable pub read_pixels : ℕ → ℕ → ℕ → ℕ → List ℕ → List ℕ
read_pixels m d w h bytes = each (read_count m d w h (length bytes)) (tile_in m d w h bytes)

-- The promise of reading: the answer, and the store with the tiles read.
abbrev pub Reads : ℕ → ℕ → ℕ → ℕ → Bool → List ℕ → List ℕ → SetAnswer → List ℕ → Type 0
Reads m d w h flips bytes store r after =
    Adds (read_says m d w h (length bytes) (length store)) no_set (read_set m d w h flips (read_count m d w h (length bytes))) store
    (overwrite store (read_pixels m d w h bytes)) r after

-- ---- written and read again, read and written again

-- How many tiles a written set reads as: those stored, and blank ones to the end of the last row of t tiles, but for those of a native size.
abbrev pub padded_tiles : ℕ → ℕ → ℕ
padded_tiles t n = (n + (t - 1)) / t * t

unfoldable pub tile_count : ℕ → ℕ → ℕ → ℕ → ℕ
tile_count m w h n = cond (is_native m w h) n (padded_tiles (row_cells m / (w / 8)) n)

-- What a read set is written as: tiles of a native size as they were. Else a cell of the n tiles read is as it was, and any other is blank.
abbrev pub cell_again : ℕ → ℕ → ℕ → ℕ → List ℕ → ℕ → ℕ → List ℕ
cell_again m d w h bytes n c = cond (ltb (tile_of m w h c) n) (take (d * 8) (drop (c * (d * 8)) bytes)) (replicate (d * 8) 0)

unfoldable pub bytes_again : ℕ → ℕ → ℕ → ℕ → List ℕ → List ℕ
bytes_again m d w h bytes =
    let n = read_count m d w h (length bytes) in
    cond (is_native m w h) bytes (each (cell_count m w h n) (cell_again m d w h bytes n))

-- The bytes of a row of tiles: of one tile of a native size, else of as many rows of cells as a tile is high.
unfoldable pub row_bytes : ℕ → ℕ → ℕ → ℕ → ℕ
row_bytes m d w h = cond (is_native m w h) (tile_size d w h) (h / 8 * row_cells m * (d * 8))
