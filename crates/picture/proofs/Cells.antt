-- Numbers of tiles, and pixels of a picture and of its tiles: each stands in one tile, at one place.
-- Assumes nothing.
use mathlib.Core.Path.{◌≡◌, refl, ap, ◌∙◌}
use mathlib.Core.Bool.{Bool, true, false, cond}
use mathlib.Core.List.{List, [], ◌∷◌}
use Prim.Native.Nat.{ℕ, ◌+◌, ◌*◌, ◌/◌, ◌%◌, ◌^◌, ◌<◌}
use native.Mathlib.Nat.{mod-lt, mul-pos, mul_comm, mul-mul-mul_comm, div-add-mod', div-lt_iff_lt-mul}
use native.Mathlib.Omega.{arith}
use lib.Dec.{eqb}
use lib.ListN.{get_or}
use Rattle.words.specs.Loops.{each}
use Rattle.words.proofs.Items.{number_at}
use Rattle.flip.proofs.Group.{place-lt, place-row, place-column, row_lt}
use Rattle.mode.specs.Table.{snes}
use Rattle.tileset.specs.Numbers.{row_cells, first_cell, tile_of, Grid}
use Rattle.tileset.proofs.NumberLaws.{first-8, tile-8 as cell-8}
use Rattle.tileset.proofs.Stores.{cut_at}
use Rattle.picture.specs.Cells.{pixel_at, tile_over, place_over, cut_tile}

-- ---- "At 8x8 they agree": the native number of a tile, and back

pub some-8 : 0 < 8
some-8 = omega arith

pub named_back : (m n : ℕ) → tile_of m 8 8 (first_cell m 8 8 n) ≡ n
named_back m n = cell-8 m (first_cell m 8 8 n) ∙ first-8 m n

grid-case : (snes : Bool) → Grid (cond snes 16 1) 1 1
grid-case true = record { row = refl; tiles = omega arith; across = omega arith; down = omega arith; narrow = omega arith; low = omega arith }
grid-case false = record { row = refl; tiles = omega arith; across = omega arith; down = omega arith; narrow = omega arith; low = omega arith }

pub grid-8 : (m : ℕ) → Grid (row_cells m) 1 1
grid-8 m = grid-case (eqb m snes)

-- ---- pixels

-- pixel p of a tile, cut to the depth
pub cut_tile-at : (d w h columns : ℕ) (pixels : List ℕ) (i p : ℕ) → p < w * h → get_or (cut_tile d w h columns pixels i) p 0 ≡ get_or pixels (pixel_at w h columns i p) 0 % 2 ^ d
unfolding cut_tile
cut_tile-at d w h columns pixels i p lt =
    cut_at d (each (w * h) (λ q. get_or pixels (pixel_at w h columns i q) 0 ∷ [])) p
    ∙ ap (λ (n : ℕ). n % 2 ^ d) (number_at (w * h) (λ q. get_or pixels (pixel_at w h columns i q) 0) p lt)

module _ (w h columns : ℕ) (some : 0 < w) (tall : 0 < h) (wide : 0 < columns) (o : ℕ) where
  abbrev across : ℕ
  across = columns * w

  left : o % across < across
  left = mod-lt o (mul-pos wide some)

  tile-column : o % across / w < columns
  tile-column = (div-lt_iff_lt-mul some).1 left

  -- the pixel of the tile that a pixel stands in, at its place there, is that pixel
  pub pixel_at-back : pixel_at w h columns (tile_over w h columns o) (place_over w h columns o) ≡ o
  unfolding pixel_at tile_over place_over
  pixel_at-back =
      let x = o % across in
      let y = o / across in
      rw (
        place-row columns (y / h) (x / w) tile-column,
        place-column columns (y / h) (x / w) tile-column,
        place-row w (y % h) (x % w) (mod-lt x some),
        place-column w (y % h) (x % w) (mod-lt x some),
        div-add-mod' y h,
        div-add-mod' x w,
      ) (div-add-mod' o across)

  pub place_over-lt : place_over w h columns o < w * h
  unfolding place_over
  place_over-lt = place-lt w h (o / across % h) (o % across % w) (mod-lt (o / across) tall) (mod-lt (o % across) some)

  pub tile_over-lt : (rows : ℕ) → o < w * h * (columns * rows) → tile_over w h columns o < columns * rows
  unfolding tile_over
  tile_over-lt rows lt =
      let all : w * h * (columns * rows) ≡ columns * w * (h * rows) = mul-mul-mul_comm w h columns rows ∙ ap (λ (n : ℕ). n * (h * rows)) (mul_comm w columns) in
      let y : o / across < h * rows = row_lt across (h * rows) o (omega arith) (mul-pos wide some) in
      place-lt columns rows (o / across / h) (o % across / w) (row_lt h rows (o / across) y tall) tile-column

-- a tile's pixel stands in the picture
pub pixel_at-lt : (w h columns rows i p : ℕ) → 0 < w → 0 < columns → i < columns * rows → p < w * h → pixel_at w h columns i p < w * h * (columns * rows)
unfolding pixel_at
pixel_at-lt w h columns rows i p some wide lt inside =
    let down : i / columns * h + p / w < h * rows = place-lt h rows (i / columns) (p / w) (row_lt columns rows i lt wide) (row_lt w h p inside some) in
    let along : i % columns * w + p % w < w * columns = place-lt w columns (i % columns) (p % w) (mod-lt i wide) (mod-lt p some) in
    rw (mul-mul-mul_comm w h columns rows, mul_comm w columns)
    (place-lt (columns * w) (h * rows) (i / columns * h + p / w) (i % columns * w + p % w) down (rw (mul_comm w columns) at along))
