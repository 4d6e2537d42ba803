-- What the functions that take the list apart ask of each other.
-- Assumes nothing.
use Rattle.std.specs.Prelude.{ℕ}

-- The most bytes of the list that is replayed.
abbrev pub list_space : ℕ
list_space = 262144
