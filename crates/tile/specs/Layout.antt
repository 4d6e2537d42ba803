-- A tile's layout: where each bit of each pixel stands in the bytes. Packing and unpacking are one definition, taken from one side or the other.
-- Assumes nothing.
use Rattle.std.specs.Prelude.{List, ℕ, get_or}
use Rattle.tile.specs.Bits.{bit_of, from_bits, table}

-- One side: so many numbers of so many bits each, and bit j of number k is bit (place k j) of number (from k j) on the other side.
pub record Side : Type 0 where
  pub count : ℕ
  pub bits : ℕ
  pub from : ℕ → ℕ → ℕ
  pub place : ℕ → ℕ → ℕ

-- Number k of a side, where xs are the numbers of the other.
abbrev pub element : Side → List ℕ → ℕ → ℕ
element s xs k = from_bits s.bits 0 (λ j. bit_of (s.place k j) (get_or xs (s.from k j) 0))

-- All the numbers of a side, where xs are the numbers of the other.
unfoldable pub spread : Side → List ℕ → List ℕ
spread s xs = table s.count 0 (element s xs)

-- The pixels of a tile, row by row, as bits of its bytes; and its bytes, as bits of its pixels. The two sides say the same thing, each from its
-- end: that they are inverse is a test which is computed for each layout.
pub record Layout : Type 0 where
  pub pixels : Side
  pub bytes : Side
