-- A number by its bits, and a list by its elements.
-- Assumes nothing.
use Rattle.std.specs.Prelude.{List, [], ◌∷◌, ℕ, zero, suc, ◌+◌, ◌*◌, ◌/◌, ◌%◌, ◌^◌}

-- Bit number p of v, the lowest being number 0.
abbrev pub bit_of : ℕ → ℕ → ℕ
bit_of p v = v / 2 ^ p % 2

-- The number whose bits, lowest first, are f at, f (at + 1), .., n of them.
unfoldable pub from_bits : ℕ → ℕ → (ℕ → ℕ) → ℕ
from_bits zero at f = 0
from_bits (suc n) at f = f at + 2 * from_bits n (suc at) f

-- The list f at, f (at + 1), .., n long.
unfoldable pub table : ℕ → ℕ → (ℕ → ℕ) → List ℕ
table zero at f = []
table (suc n) at f = f at ∷ table n (suc at) f
