-- The cells before i are unpacked.
use mathlib.Core.List.{List}
use Prim.Native.Nat.{ℕ, ◌+◌, ◌*◌, ◌/◌, ◌%◌}
use Rattle.words.proofs.Filling.{Filled}
use Rattle.tileset.specs.Reading.{cell_in}
use Rattle.tileset.proofs.reading.unpack_cells.Given as goal

-- the pixels of the cells of a tile, h cells wide, that starts at a cell, in rows of r cells
abbrev pub pixels : ℕ → ℕ → List ℕ → ℕ → ℕ → ℕ → ℕ → List ℕ
pixels m d bytes h r first k = cell_in m d bytes (first + k / h * r + k % h)

abbrev pub invariant-loop-i : goal.invariant-loop-i
invariant-loop-i l =
    Filled (pixels l.fn.shape.mode l.fn.shape.depth l.bytes l.cells.across l.cells.row l.first.0) l.initial.out 0 l.i l.out
