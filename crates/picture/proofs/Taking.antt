-- A tile is taken out of a picture row by row.
-- Assumes nothing.
use mathlib.Core.Path.{◌≡◌, sym, ap, ◌∙◌}
use mathlib.Core.List.{List, [], ◌∷◌}
use Prim.Native.Nat.{ℕ, ◌+◌, ◌*◌, ◌/◌, ◌%◌, ◌^◌, ◌<◌, ◌≤◌}
use native.Mathlib.Nat.{add-mul, mul-le-mul_right, mul-le-mul}
use native.Mathlib.Omega.{arith}
use lib.ListN.{length, get_or}
use lib.Seq.{ext_get_or}
use Rattle.words.specs.Loops.{each}
use Rattle.words.proofs.Items.{item-get_or, length-ones, number_at}
use Rattle.words.proofs.Loops.{length-each}
use Rattle.picture.specs.Cells.{pixel_at, cut_tile}
use Rattle.picture.specs.Converting.{places}
use Rattle.picture.specs.Inner.{IsPicture, HasTile}
use Rattle.picture.specs.declared.Settings.{Settings}
use Rattle.picture.proofs.Cells.{cut_tile-at, pixel_at-lt}
use Rattle.picture.proofs.Kept.{length-cut_tile}

-- ---- the rows of a tile

module _ (d columns : ℕ) (pixels : List ℕ) (i : ℕ) where
  abbrev pub corner_at : ℕ
  corner_at = i / columns * 8 * (columns * 8) + i % columns * 8

  abbrev pub row_at : ℕ → List ℕ
  row_at y = each 8 (λ x. get_or pixels (corner_at + y * (columns * 8) + x) 0 % 2 ^ d ∷ [])

  pub row-length : (y : ℕ) → length (row_at y) ≡ 8
  row-length y = length-ones 8 (λ x. get_or pixels (corner_at + y * (columns * 8) + x) 0 % 2 ^ d)

  place_is : (p : ℕ) → corner_at + p / 8 * (columns * 8) + p % 8 ≡ pixel_at 8 8 columns i p
  unfolding pixel_at
  place_is p = omega (arith, add-mul (i / columns * 8) (p / 8) (columns * 8))

  pub rows_are : each 8 row_at ≡ cut_tile d 8 8 columns pixels i
  rows_are =
      let len : length (each 8 row_at) ≡ 64 = length-each 8 8 row_at row-length in
      ext_get_or 0 (each 8 row_at) (cut_tile d 8 8 columns pixels i) (len ∙ sym (length-cut_tile d 8 8 columns pixels i))
      (λ p lt.
      let below : p < 64 = omega arith in
      let split : p / 8 * 8 + p % 8 ≡ p = omega arith in
      ap (λ (k : ℕ). get_or (each 8 row_at) k 0) (sym split)
      ∙ item-get_or 8 row_at row-length 8 (p / 8) (omega arith) (p % 8) (omega arith)
      ∙ number_at 8 (λ x. get_or pixels (corner_at + p / 8 * (columns * 8) + x) 0 % 2 ^ d) (p % 8) (omega arith)
      ∙ ap (λ (k : ℕ). get_or pixels k 0 % 2 ^ d) (place_is p)
      ∙ sym (cut_tile-at d 8 8 columns pixels i p below))

-- ---- each tile of a picture is inside

pub has-tile : {z : Settings} {pixels : List ℕ} → IsPicture z (length pixels) → (i : ℕ) → i < places z → HasTile z.depth pixels z.columns i
has-tile {z} {pixels} s i lt =
    record {
      deep = s.deep;
      some = s.some;
      narrow = s.narrow;
      few = omega (arith, mul-le-mul {n₁ = z.columns} {m₁ = z.rows} {n₂ = 64} {m₂ = 64} s.narrow s.low);
      inside = omega (arith, place_is z.depth z.columns pixels i 63, pixel_at-lt 8 8 z.columns z.rows i 63 (omega arith) s.some lt (omega arith), s.whole);
    }

-- ---- numbers that fit

module _ {d columns i : ℕ} {pixels : List ℕ} (t : HasTile d pixels columns i) where
  pub row-there : (y : ℕ) → y < 8 → corner_at d columns pixels i + y * (columns * 8) + 8 ≤ length pixels
  row-there y lt =
      let a : y * (columns * 8) ≤ 7 * (columns * 8) = mul-le-mul_right (columns * 8) (omega arith) in
      omega (arith, t.inside)
