-- The links of an index: said of any two lists, and in a file that names no `Index`, so that a function over a caller's own arrays can promise them.
-- Scaffolding of proofs, which no export's contract reaches.
-- Assumes nothing.
use Rattle.std.specs.Prelude.{cond, List, ℕ, ◌%◌, eqb, get_or}

-- The link that follows tile k in bucket b; a tile of another bucket, which no chain has, is passed by.
unfoldable pub link_in : List ℕ → List ℕ → ℕ → ℕ → ℕ
link_in keys next b k = cond (eqb (get_or keys k 0 % 4096) b) (get_or next k 0) k
