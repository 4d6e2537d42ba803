-- What comparing tiles eight pixels at a time asks and tells: scaffolding of proofs, which no export's contract reaches.
-- Assumes nothing.
use Rattle.std.specs.Prelude.{◌≡◌, Bool, true, false, cond, List, ℕ, ◌+◌, ◌-◌, ◌*◌, ◌%◌, ◌<◌, ◌≤◌, length, get_or}
use Rattle.flip.specs.Flips.{turned}

-- What comparing the tile at place at of a store with a tile asks. Every tile is some eights wide.
pub record Compares (store : List ℕ) (at : ℕ) (tile : List ℕ) (w h : ℕ) : Type 0 where
  pub some : 0 < w
  pub eights : w % 8 ≡ 0
  pub inside : at + w * h ≤ length store
  pub whole : length tile ≡ w * h

pub record ComparesRow (store : List ℕ) (from : ℕ) (tile : List ℕ) (i w : ℕ) : Type 0 where
  pub eights : w % 8 ≡ 0
  pub inside : from + w ≤ length store
  pub within : i + w ≤ length tile

-- Whether a row of the tile, from place i on, is the store's row from place from on, turned or not.
abbrev pub RowAgrees : Bool → List ℕ → ℕ → List ℕ → ℕ → ℕ → Type 0
RowAgrees across store from tile i w = (x : ℕ) → x < w → get_or store (from + turned across w x) 0 ≡ get_or tile (i + x) 0

abbrev pub RowAs : Bool → List ℕ → ℕ → List ℕ → ℕ → ℕ → Bool → Type 0
RowAs across store from tile i w true = RowAgrees across store from tile i w
RowAs across store from tile i w false = RowAgrees across store from tile i w → ⊥

-- Where the eight pixels at place x of a row of w stand in the row.
abbrev pub eight_from : Bool → ℕ → ℕ → ℕ
eight_from across w x = cond across (w - 8 - x) x
