-- The key of an 8x8 tile, which no allowed flip changes: a hash, summed over the four flips, or with flips off over two. Scaffolding of proofs, which no
-- export's contract reaches.
-- Assumes nothing.
use Rattle.std.specs.Prelude.{Bool, true, false, cond, List, ℕ, zero, suc, ◌+◌, ◌*◌, ◌/◌, ◌%◌, get_or}
use Rattle.flip.specs.Flips.{flip, flipped}

-- Four pixels of a tile, from place 4n on, as one number.
unfoldable pub word : List ℕ → ℕ → ℕ
word t n = get_or t (4 * n) 0 + 256 * get_or t (4 * n + 1) 0 + (65536 * get_or t (4 * n + 2) 0 + 16777216 * get_or t (4 * n + 3) 0)

-- The hash of the first n of them.
unfoldable pub hash : List ℕ → ℕ → ℕ
hash t zero = 0
hash t (suc n) = (hash t n * 10368889 + word t n) % 4294967296

unfoldable pub mix : ℕ → ℕ
mix x = x * x / 4294967296

-- The hashes of a tile and of the same turned across, both turned down or neither: a pixel that is high in a number of the one, where little of it
-- stays in the hash, is low in the other.
unfoldable pub pair : Bool → List ℕ → ℕ
pair v t = mix (hash (flipped (flip false v) 8 8 t) 16) + mix (hash (flipped (flip true v) 8 8 t) 16)

unfoldable pub key : Bool → List ℕ → ℕ
key on t = cond on (pair false t + pair true t) (pair false t) % 4294967296
