-- "Native numbers count 8x8 cells, logical numbers count whole tiles; one is never taken where the other is due."
-- Assumes nothing.
use Rattle.std.specs.Prelude.{◌≡◌, not, cond, List, [], ◌∷◌, ◌++◌, ℕ, ◌+◌, ◌*◌, ◌/◌, ◌%◌, ◌<◌, ◌≤◌, ltb, eqb}
use Rattle.words.specs.Answers.{◌when◌, first_applying}
use Rattle.mode.specs.Table.{snes, pce-sprite}
use Rattle.tileset.specs.Sets.{is_size}

-- "With R = 16 cells a row for snes and 1 for others, H and V cells per tile, T = R/H."
abbrev pub row_cells : ℕ → ℕ
row_cells m = cond (eqb m snes) 16 1

-- With r, h, v for R, H, V: "tile n starts at (n/T) x V x R + (n mod T) x H, whole quotients."
unfoldable pub starts_at : ℕ → ℕ → ℕ → ℕ → ℕ
starts_at r h v n = n / (r / h) * v * r + n % (r / h) * h

-- "Cell c belongs to tile ((c/R)/V) x T + (c mod R)/H."
unfoldable pub belongs_to : ℕ → ℕ → ℕ → ℕ → ℕ
belongs_to r h v c = c / r / v * (r / h) + c % r / h

abbrev pub first_cell : ℕ → ℕ → ℕ → ℕ → ℕ
first_cell m w h n = starts_at (row_cells m) (w / 8) (h / 8) n

abbrev pub tile_of : ℕ → ℕ → ℕ → ℕ → ℕ
tile_of m w h c = belongs_to (row_cells m) (w / 8) (h / 8) c

-- The checks of both: "mode number above 15" (1), "an entry, picture, redraw or cell number in pce_sprite" (2), "tile size not allowed" (4).
abbrev pub grid_checks : ℕ → ℕ → ℕ → List ℕ
grid_checks m w h = 1 when ltb 15 m ∷ 2 when eqb m pce-sprite ∷ 4 when not (is_size m w h) ∷ []

unfoldable pub grid_says : ℕ → ℕ → ℕ → ℕ
grid_says m w h = first_applying (grid_checks m w h)

-- "or a tile number above 65,535" (4).
abbrev pub native_checks : ℕ → ℕ → ℕ → ℕ → List ℕ
native_checks m w h n = grid_checks m w h ++ 4 when ltb 65535 n ∷ []

unfoldable pub native_says : ℕ → ℕ → ℕ → ℕ → ℕ
native_says m w h n = first_applying (native_checks m w h n)

-- The same of the tile that a cell belongs to.
abbrev pub logical_checks : ℕ → ℕ → ℕ → ℕ → List ℕ
logical_checks m w h c = native_checks m w h (tile_of m w h c)

abbrev pub logical_says : ℕ → ℕ → ℕ → ℕ → ℕ
logical_says m w h c = native_says m w h (tile_of m w h c)

-- With r, h, v for R, H, V, where the sizes are allowed: whole tiles in a row of cells, and few cells.
pub record Grid (r h v : ℕ) : Type 0 where
  pub row : r ≡ r / h * h
  pub tiles : 0 < r / h
  pub across : 0 < h
  pub down : 0 < v
  pub narrow : r ≤ 16
  pub low : v ≤ 8
