-- The flips of a tile: "h reverses each row, v the order of rows, hv both". A tile w wide and h high is its pixels row by row.
-- Assumes nothing.
use Rattle.std.specs.Prelude.{Bool, cond, List, [], ◌∷◌, ℕ, ◌+◌, ◌-◌, ◌*◌, ◌/◌, ◌%◌, get_or}
use Rattle.std.specs.Bool.{xor}
use Rattle.words.specs.Loops.{each}
use Rattle.flip.specs.declared.Flip.{Flip}

abbrev pub flip : Bool → Bool → Flip
flip h v = record { h = h; v = v }

-- Place x of n, counted from the other end where the flip is on.
abbrev pub turned : Bool → ℕ → ℕ → ℕ
turned on n x = cond on (n - 1 - x) x

-- Where the pixel at place i of a flipped tile stands in the tile.
unfoldable pub flip_at : Flip → ℕ → ℕ → ℕ → ℕ
flip_at f w h i = turned f.v h (i / w) * w + turned f.h w (i % w)

-- A tile under a flip.
unfoldable pub flipped : Flip → ℕ → ℕ → List ℕ → List ℕ
flipped f w h tile = each (w * h) (λ i. get_or tile (flip_at f w h i) 0 ∷ [])

-- One flip after another.
abbrev pub after : Flip → Flip → Flip
after f g = flip (xor f.h g.h) (xor f.v g.v)
