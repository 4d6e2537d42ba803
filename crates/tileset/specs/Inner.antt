-- What the inner functions of tile sets ask of their callers, and what they compute on the way: no export's contract reaches it.
-- Assumes nothing.
use Rattle.std.specs.Prelude.{◌≡◌, List, [], ◌∷◌, ◌++◌, ℕ, ◌+◌, ◌*◌, ◌/◌, ◌%◌, ◌<◌, ◌≤◌, length, get_or, Bool}
use Rattle.words.specs.Loops.{each}
use Rattle.mode.specs.Table.{pce-sprite, one_of}
use Rattle.tileset.specs.Sets.{area, answered_set, sides}
use Rattle.tileset.specs.Numbers.{row_cells, first_cell, tile_of, Grid}
use Rattle.tileset.specs.Reading.{read_count, cell_in, last_cell}
use Rattle.tileset.specs.declared.Set.{Set}
use Rattle.tileset.specs.declared.shape.Shape.{Shape}
use Rattle.tileset.specs.declared.numbers.Cells.{Cells}
use Rattle.words.specs.Answers.{◌when◌, first_applying}
use Rattle.tileset.specs.declared.SetAnswer.{SetAnswer}
use Rattle.tileset.specs.declared.Found.{Found}
use Rattle.tileset.specs.Adding.{no_room, counter_full, end_checks, one_stored, one_discarded, at_end, added_by, store_by, Adds}

-- ---- the shape of a set's tiles, and how they stand in cells

pub record IsShape (m d w h : ℕ) (s : Shape) : Type 0 where
  pub mode : s.mode ≡ m
  pub depth : s.depth ≡ d
  pub width : s.width ≡ w
  pub height : s.height ≡ h

pub record IsCells (m w h : ℕ) (s : Cells) : Type 0 where
  pub row : s.row ≡ row_cells m
  pub across : s.across ≡ w / 8
  pub down : s.down ≡ h / 8

-- ---- finding: cutting pixels into a buffer, searching some tiles of a store, and searching a set

pub record Cuts (depth : ℕ) (pixels out : List ℕ) (at : ℕ) : Type 0 where
  pub deep : depth ≤ 8
  pub inside : at + length pixels ≤ length out

pub record Finds (store : List ℕ) (count : ℕ) (tile : List ℕ) (w h : ℕ) : Type 0 where
  pub some : 0 < w
  pub eights : w % 8 ≡ 0
  pub small : w * h ≤ 4096
  pub inside : count * (w * h) ≤ length store
  pub whole : length tile ≡ w * h

pub record Looks (z : Set) (store pixels : List ℕ) : Type 0 where
  pub deep : z.depth ≤ 8
  pub some : 0 < z.width
  pub eights : z.width % 8 ≡ 0
  pub tall : 0 < z.height
  pub small : area z ≤ 4096
  pub inside : z.stored * area z ≤ length store
  pub few : z.stored ≤ 65535
  pub whole : length pixels ≡ area z

-- ---- numbers, writing and reading

-- What writing one cell asks.
pub record PutsCell (z : Set) (out : List ℕ) (at : ℕ) : Type 0 where
  pub cells : z.mode ≡ pce-sprite → ⊥
  pub space : at + z.depth * 8 ≤ length out

-- A cell of a tile, and where its pixels start.
pub record HasCorner (z : Set) (c tile : ℕ) : Type 0 where
  pub grid : Grid (row_cells z.mode) (z.width / 8) (z.height / 8)
  pub across : z.width ≡ z.width / 8 * 8
  pub down : z.height ≡ z.height / 8 * 8
  pub small : area z ≤ 4096
  pub few : tile ≤ 65535
  pub is : tile ≡ tile_of z.mode z.width z.height c

-- A block of eight by eight pixels of a store.
pub record HasBlock (store : List ℕ) (corner w : ℕ) (out : List ℕ) : Type 0 where
  pub inside : corner + 7 * w + 8 ≤ length store
  pub long : length out ≡ 64

-- What reading the tiles asks, the cells of one tile up to its last, its rows, and one row.
pub record ReadsAll (s : Shape) (count : ℕ) (bytes store : List ℕ) : Type 0 where
  pub few : count ≤ 65535
  pub is : count ≡ read_count s.mode s.depth s.width s.height (length bytes)
  pub space : count * (s.width * s.height) ≤ length store

pub record ReadsCells (s : Shape) (bytes : List ℕ) (n : ℕ) (out : List ℕ) : Type 0 where
  pub cells : s.mode ≡ pce-sprite → ⊥
  pub few : n ≤ 65535
  pub inside : (last_cell (row_cells s.mode) (s.width / 8) (s.height / 8) n + 1) * (s.depth * 8) ≤ length bytes
  pub long : length out ≡ 4096

pub record ReadsRows (w h : ℕ) (cells out : List ℕ) (at : ℕ) : Type 0 where
  pub across : w ≡ w / 8 * 8
  pub down : h ≡ h / 8 * 8
  pub inside : w * h ≤ length cells
  pub space : at + w * h ≤ length out

pub record ReadsRow (w y : ℕ) (cells out : List ℕ) (at : ℕ) : Type 0 where
  pub across : w ≡ w / 8 * 8
  pub inside : (y / 8 * 8 + 8) * w ≤ length cells
  pub space : at + w ≤ length out

-- The pixels of a tile's cells, cell after cell, row by row of cells; and where pixel (y, x) of the tile is among them.
abbrev pub cells_in : ℕ → ℕ → ℕ → ℕ → List ℕ → ℕ → List ℕ
cells_in m d w h bytes n = each (w / 8 * (h / 8)) (λ k. cell_in m d bytes (first_cell m w h n + k / (w / 8) * row_cells m + k % (w / 8)))

abbrev pub place_in : ℕ → ℕ → ℕ → ℕ
place_in w y x = (y / 8 * (w / 8) + x / 8) * 64 + y % 8 * 8 + x % 8

abbrev pub row_of : ℕ → List ℕ → ℕ → List ℕ
row_of w cells y = each w (λ x. get_or cells (place_in w y x) 0 ∷ [])

-- Of adding after some first checks, with a found place and a room; and of adding to a set.
abbrev pub AddsBy : List ℕ → Set → Found → ℕ → List ℕ → List ℕ → SetAnswer → List ℕ → Type 0
AddsBy firsts z found room store pixels r after =
    Adds (first_applying (firsts ++ end_checks z found room)) z (added_by z found) store (store_by z found store pixels) r after

-- Of its two ends, the tile stored, "or 12"; and the match counted, or 13.
abbrev pub Stores : Set → ℕ → List ℕ → List ℕ → SetAnswer → List ℕ → Type 0
Stores z room store pixels r after = Adds (12 when no_room z room) z (one_stored z) store (at_end z store pixels) r after

abbrev pub discard_answer : Set → SetAnswer
discard_answer z = answered_set (13 when counter_full z) (one_discarded z) z

abbrev pub is_side : ℕ → Bool
is_side n = one_of n sides
