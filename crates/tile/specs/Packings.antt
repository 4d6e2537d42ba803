-- "Tile bytes": the layouts of document 01. Pixel i of a tile w wide stands in column i % w of row i / w.
-- Assumes nothing.
use Rattle.std.specs.Prelude.{ℕ, ◌+◌, ◌-◌, ◌*◌, ◌/◌, ◌%◌}
use Rattle.tile.specs.Layout.{Layout}
use Rattle.tile.specs.declared.Packing.{Packing}
use Rattle.tile.specs.declared.Packing.TheVariants.{Planar, Ngp, LowFirst, HighFirst, Plain, Sprite}

-- "For each pair of planes (0,1), (2,3) .., for each row, low plane byte then high. Leftmost pixel is the top bit. Depth 1: one byte a row."
-- "Each row is four bytes, planes 0 to 3, leftmost pixel top." So d planes in groups of g: two, one at depth 1, or four.
abbrev pub planar : ℕ → ℕ → ℕ → ℕ → Layout
planar g d w h =
    record {
      pixels = record { count = w * h; bits = d; from = λ i p. p / g * (g * h) + i / w * g + p % g; place = λ i p. 7 - i % w };
      bytes = record { count = w * h * d / 8; bits = 8; from = λ k j. k / g % h * w + (7 - j); place = λ k j. k / (g * h) * g + k % g };
    }

-- "Two bytes a row. With px = 7 - x, pixel x stands in byte px/4 .. its low bit at place twice (px mod 4)."
abbrev pub ngp : ℕ → ℕ → Layout
ngp w h =
    record {
      pixels = record { count = w * h; bits = 2; from = λ i p. i / w * 2 + (7 - i % w) / 4; place = λ i p. (7 - i % w) % 4 * 2 + p };
      bytes = record { count = w * h * 2 / 8; bits = 8; from = λ k j. k / 2 * w + (7 - (k % 2 * 4 + j / 2)); place = λ k j. j % 2 };
    }

-- "First pixel of each two in the low nibble."
abbrev pub low_first : ℕ → ℕ → Layout
low_first w h =
    record {
      pixels = record { count = w * h; bits = 4; from = λ i p. i / 2; place = λ i p. i % 2 * 4 + p };
      bytes = record { count = w * h * 4 / 8; bits = 8; from = λ k j. k * 2 + j / 4; place = λ k j. j % 4 };
    }

-- "Wsc_packed: in the high nibble."
abbrev pub high_first : ℕ → ℕ → Layout
high_first w h =
    record {
      pixels = record { count = w * h; bits = 4; from = λ i p. i / 2; place = λ i p. (1 - i % 2) * 4 + p };
      bytes = record { count = w * h * 4 / 8; bits = 8; from = λ k j. k * 2 + (1 - j / 4); place = λ k j. j % 4 };
    }

-- "Pixels as they are."
abbrev pub plain : ℕ → ℕ → Layout
plain w h =
    record {
      pixels = record { count = w * h; bits = 8; from = λ i p. i; place = λ i p. p };
      bytes = record { count = w * h * 8 / 8; bits = 8; from = λ k j. k; place = λ k j. j };
    }

-- "Cells of 16x16, columns of cells left to right, each top to bottom. A cell is four planes of 32 bytes, two bytes a row": the byte with plane p
-- of the pixel in column x and row y, in a sprite h high.
abbrev pub sprite_byte : ℕ → ℕ → ℕ → ℕ → ℕ
sprite_byte h x y p = (x / 16 * (h / 16) + y / 16) * 128 + p * 32 + y % 16 * 2 + x % 16 / 8

-- The row and the first column of the eight pixels of byte k.
abbrev pub sprite_row : ℕ → ℕ → ℕ
sprite_row h k = k / 128 % (h / 16) * 16 + k % 32 / 2

abbrev pub sprite_column : ℕ → ℕ → ℕ
sprite_column h k = k / 128 / (h / 16) * 16 + k % 2 * 8

-- "Pixel x mod 8 is bit x mod 8."
abbrev pub sprite : ℕ → ℕ → Layout
sprite w h =
    record {
      pixels = record { count = w * h; bits = 4; from = λ i p. sprite_byte h (i % w) (i / w) p; place = λ i p. i % w % 8 };
      bytes = record { count = w * h * 4 / 8; bits = 8; from = λ k j. sprite_row h k * w + sprite_column h k + j; place = λ k j. k % 128 / 32 };
    }

-- The layout that a packing names: "8x8 .. in every mode but pce_sprite".
abbrev pub layout_in : Packing → Layout
layout_in (Planar g d) = planar g d 8 8
layout_in Ngp = ngp 8 8
layout_in LowFirst = low_first 8 8
layout_in HighFirst = high_first 8 8
layout_in Plain = plain 8 8
layout_in (Sprite w h) = sprite w h
