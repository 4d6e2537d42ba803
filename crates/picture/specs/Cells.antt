-- "Columns x rows of tiles, row-major pixels .. Tiles are taken left to right, top to bottom." Tiles are w wide and h high.
-- Assumes nothing.
use Rattle.std.specs.Prelude.{List, [], ◌∷◌, ◌++◌, ℕ, zero, suc, ◌+◌, ◌*◌, ◌/◌, ◌%◌, get_or}
use Rattle.words.specs.Loops.{each}
use Rattle.tileset.specs.Finding.{cut_to}

-- Where pixel p of tile i stands in a picture.
unfoldable pub pixel_at : ℕ → ℕ → ℕ → ℕ → ℕ → ℕ
pixel_at w h columns i p = (i / columns * h + p / w) * (columns * w) + (i % columns * w + p % w)

-- And back: the tile that pixel o of a picture stands in, and its place there.
unfoldable pub tile_over : ℕ → ℕ → ℕ → ℕ → ℕ
tile_over w h columns o = o / (columns * w) / h * columns + o % (columns * w) / w

unfoldable pub place_over : ℕ → ℕ → ℕ → ℕ → ℕ
place_over w h columns o = o / (columns * w) % h * w + o % (columns * w) % w

-- Tile i of a picture, "cut to the depth", and the first n tiles.
unfoldable pub cut_tile : ℕ → ℕ → ℕ → ℕ → List ℕ → ℕ → List ℕ
cut_tile d w h columns pixels i = cut_to d (each (w * h) (λ p. get_or pixels (pixel_at w h columns i p) 0 ∷ []))

unfoldable pub cut_tiles : ℕ → ℕ → ℕ → ℕ → List ℕ → ℕ → List (List ℕ)
cut_tiles d w h columns pixels zero = []
cut_tiles d w h columns pixels (suc n) = cut_tiles d w h columns pixels n ++ cut_tile d w h columns pixels n ∷ []
