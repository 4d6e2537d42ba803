-- "Writing, but for 8x8 and pce_sprite, pads the last row with blank cells."
-- Assumes nothing.
use Rattle.std.specs.Prelude.{cond, ◌&&◌, List, [], ◌∷◌, ◌++◌, ℕ, ◌+◌, ◌-◌, ◌*◌, ◌/◌, ◌%◌, ltb, eqb, length, get_or, take, drop, replicate}
use Rattle.words.specs.Answers.{◌when◌, first_applying}
use Rattle.words.specs.Loops.{each, some}
use Rattle.mode.specs.Table.{pce-sprite}
use Rattle.tile.specs.Tile.{packed, too_large}
use Rattle.tileset.specs.Sets.{area, held_checks}
use Rattle.tileset.specs.Numbers.{row_cells, tile_of}
use Rattle.tileset.specs.declared.Set.{Set}

-- How many cells n tiles take: whole rows of cells, as many as their rows of tiles.
unfoldable pub padded_cells : ℕ → ℕ → ℕ → ℕ → ℕ
padded_cells r h v n = (n + (r / h - 1)) / (r / h) * v * r

unfoldable pub cell_count : ℕ → ℕ → ℕ → ℕ → ℕ
cell_count m w h n = cond (eqb w 8 && eqb h 8) n (padded_cells (row_cells m) (w / 8) (h / 8) n)

-- Where cell c's pixels start in the store: its tile, and its row and column there. Pixel i of a cell is in row i / 8 and column i % 8.
unfoldable pub corner_of : ℕ → ℕ → ℕ → ℕ → ℕ
corner_of m w h c = tile_of m w h c * (w * h) + c / row_cells m % (h / 8) * 8 * w + c % row_cells m % (w / 8) * 8

abbrev pub block : List ℕ → ℕ → ℕ → List ℕ
block store corner w = each 64 (λ i. get_or store (corner + i / 8 * w + i % 8) 0 ∷ [])

abbrev pub tile_at : Set → ℕ → ℕ
tile_at z c = tile_of z.mode z.width z.height c

abbrev pub corner_at : Set → ℕ → ℕ
corner_at z c = corner_of z.mode z.width z.height c

unfoldable pub cell_pixels : Set → List ℕ → ℕ → List ℕ
cell_pixels z store c = cond (ltb (tile_at z c) z.stored) (block store (corner_at z c) z.width) (replicate 64 0)

-- The bytes of a set: sprites tile by tile, the others cell by cell.
abbrev pub sprite_bytes : Set → List ℕ → ℕ → List ℕ
sprite_bytes z store i = packed z.mode z.depth z.width z.height (take (area z) (drop (i * area z) store))

abbrev pub cell_bytes : Set → List ℕ → ℕ → List ℕ
cell_bytes z store c = packed z.mode z.depth 8 8 (cell_pixels z store c)

abbrev pub cells_of : Set → ℕ
cells_of z = cell_count z.mode z.width z.height z.stored

unfoldable pub set_bytes : Set → List ℕ → List ℕ
set_bytes z store = cond (eqb z.mode pce-sprite) (each z.stored (sprite_bytes z store)) (each (cells_of z) (cell_bytes z store))

unfoldable pub write_size : Set → ℕ
write_size z = cond (eqb z.mode pce-sprite) (z.stored * (area z * z.depth / 8)) (cells_of z * (z.depth * 8))

-- "a pixel of 2^depth or more, in .. set writing" (8), of the counted tiles; "output buffer shorter than the bytes to be written" (11).
abbrev pub write_checks : Set → List ℕ → ℕ → List ℕ
write_checks z store space =
    held_checks z (length store) ++ 8 when some (z.stored * area z) (too_large z.depth store) ∷ 11 when ltb space (write_size z) ∷ []

unfoldable pub write_says : Set → List ℕ → ℕ → ℕ
write_says z store space = first_applying (write_checks z store space)
