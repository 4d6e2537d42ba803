-- The two index formulas: they fit, every cell of a tile belongs to it, every cell stands in its tile, and at 8x8 they agree.
-- Assumes nothing.
use mathlib.Core.Path.{◌≡◌, sym, ap, ◌∙◌, subst}
use mathlib.Core.List.{List, [], ◌∷◌}
use Prim.Native.Nat.{ℕ, ◌+◌, ◌*◌, ◌/◌, ◌%◌, ◌<◌, ◌≤◌}
use native.Mathlib.Nat.{div-le_self, mod-le, mod-lt, mul-le-mul, mul-le-mul_left, mul-le-mul_right, div-add-mod', div-lt_iff_lt-mul, div-one, mul-one, mul_comm, add-mul, le_trans}
use native.Mathlib.Omega.{arith}
use lib.Dec.{ltb}
use borrow.Author.Tests.{lt-ltb, le-ltb}
use Rattle.std.specs.Prelude.{Ok, Err}
use Rattle.words.specs.Answers.{◌when◌, numbered}
use Rattle.words.specs.InnerResults.{refusal_number, numbered_by}
use Rattle.words.specs.declared.refusal.Refusal.{Refusal}
use Rattle.words.proofs.Refusing.{refused_first, numbered-refused}
use Rattle.words.proofs.Order.{checks-after}
use Rattle.flip.proofs.Group.{place-lt, place-row, place-column}
use Rattle.tileset.specs.Numbers.{starts_at, belongs_to, row_cells, first_cell, tile_of, grid_checks, grid_says, native_says, Grid}
use Rattle.tileset.proofs.Sizes.{grid-of}

pub grid-at : {k r h v : ℕ} → Grid r h v → k ≡ r → Grid k h v
grid-at {h} {v} g e = subst (λ (n : ℕ). Grid n h v) (sym e) g

-- ---- the formulas fit

module _ (r h v : ℕ) (g : Grid r h v) where
  abbrev T : ℕ
  T = r / h

  across-few : h ≤ 16
  across-few = omega (arith, g.row, g.narrow, mul-le-mul_right h g.tiles)

  pub start-down : (n : ℕ) → n ≤ 65535 → n / T * v ≤ 524280
  start-down n few = le_trans (mul-le-mul (le_trans (div-le_self n T) few) g.low) (omega arith)

  pub start-row : (n : ℕ) → n ≤ 65535 → n / T * v * r ≤ 8388480
  start-row n few = le_trans (mul-le-mul (start-down n few) g.narrow) (omega arith)

  pub start-across : (n : ℕ) → n ≤ 65535 → n % T * h ≤ 1048560
  start-across n few = le_trans (mul-le-mul (le_trans (mod-le n T) few) across-few) (omega arith)

  row-tiles : T ≤ r
  row-tiles = omega (arith, g.row, mul-le-mul_left T g.across)

  pub row-some : 0 < r
  row-some = omega (arith, row-tiles, g.tiles)

  pub belongs-row : (c : ℕ) → c / r / v * T ≤ c / r * r
  belongs-row c = mul-le-mul (div-le_self (c / r) v) row-tiles

  pub belongs-fits : (c : ℕ) → c / r / v * T + c % r / h ≤ c
  belongs-fits c = omega (arith, belongs-row c, div-le_self (c % r) h, div-add-mod' c r)

  -- ---- the cell in row i and column j of tile n belongs to it

  row_is : T * h ≡ r
  row_is = sym g.row

  module _ (n i j : ℕ) (hi : i < v) (hj : j < h) where
    abbrev x : ℕ
    x = n % T * h + j

    abbrev y : ℕ
    y = n / T * v + i

    inside : x < r
    inside = omega (arith, place-lt h T (n % T) j (mod-lt n g.tiles) hj, mul_comm h T, row_is)

    whole : starts_at r h v n + i * r + j ≡ y * r + x
    unfolding starts_at
    whole = omega (arith, add-mul (n / T * v) i r)

    pub belongs-start : belongs_to r h v (starts_at r h v n + i * r + j) ≡ n
    unfolding belongs_to
    belongs-start =
        rw (whole, place-row r y x inside, place-column r y x inside, place-row v (n / T) i hi, place-row h (n % T) j hj) (div-add-mod' n T)

    -- its row and column in the tile
    pub row-start : (starts_at r h v n + i * r + j) / r % v ≡ i
    row-start = rw (whole, place-row r y x inside) (place-column v (n / T) i hi)

    pub column-start : (starts_at r h v n + i * r + j) % r % h ≡ j
    column-start = rw (whole, place-column r y x inside) (place-column h (n % T) j hj)

  -- ---- and cell c stands in row c/R mod V and column c mod R mod H of its tile
  pub start-belongs : (c : ℕ) → starts_at r h v (belongs_to r h v c) + c / r % v * r + c % r % h ≡ c
  unfolding belongs_to starts_at
  start-belongs c =
      let q = c / r / v in
      let p = c % r / h in
      let small : p < T = (div-lt_iff_lt-mul g.across).1 (omega (arith, mod-lt c row-some, row_is)) in
      rw (place-row T q p small, place-column T q p small)
      (omega (arith, add-mul (q * v) (c / r % v) r, ap (λ (k : ℕ). k * r) (div-add-mod' (c / r) v), div-add-mod' (c % r) h, div-add-mod' c r))

-- ---- the two kinds of number

module _ (m w h : ℕ) (z : grid_says m w h ≡ 0) where
  -- every cell of a tile belongs to it
  pub cells-belong : (n i j : ℕ) → i < h / 8 → j < w / 8 → tile_of m w h (first_cell m w h n + i * row_cells m + j) ≡ n
  cells-belong = belongs-start (row_cells m) (w / 8) (h / 8) (grid-of m w h z)

  -- the formulas are inverse
  pub tile-of-first : (n : ℕ) → tile_of m w h (first_cell m w h n) ≡ n
  tile-of-first n =
      let g = grid-of m w h z in
      let e : first_cell m w h n ≡ first_cell m w h n + 0 * row_cells m + 0 = omega arith in
      ap (tile_of m w h) e ∙ cells-belong n 0 0 g.down g.across

  -- every cell stands in its tile
  pub cell-in-tile : (c : ℕ) → first_cell m w h (tile_of m w h c) + c / row_cells m % (h / 8) * row_cells m + c % row_cells m % (w / 8) ≡ c
  cell-in-tile = start-belongs (row_cells m) (w / 8) (h / 8) (grid-of m w h z)

-- "At 8x8 they agree."
pub single-starts : (r n : ℕ) → starts_at r 1 1 n ≡ n
unfolding starts_at
single-starts r n = rw (div-one r, mul-one (n / r), mul-one (n % r)) (div-add-mod' n r)

pub first-8 : (m n : ℕ) → first_cell m 8 8 n ≡ n
first-8 m n = single-starts (row_cells m) n

pub tile-8 : (m c : ℕ) → tile_of m 8 8 c ≡ c
unfolding belongs_to
tile-8 m c = rw (div-one (c / row_cells m), div-one (row_cells m), div-one (c % row_cells m)) (div-add-mod' c (row_cells m))

-- ---- the checks of the two numbers: a refused one is 0, and any other is given

pub number_refused : (e : Refusal) (k value : ℕ) → refusal_number e ≡ k → numbered k value ≡ numbered_by (Err e)
number_refused e k value given = sym (numbered-refused e value given)

pub number_done : (k value : ℕ) → k ≡ 0 → numbered k value ≡ numbered_by (Ok value)
number_done k value e = ap (λ (n : ℕ). numbered n value) e

-- n is the tile number
module _ (m w h n : ℕ) where
  abbrev high : List ℕ
  high = 4 when ltb 65535 n ∷ []

  pub native_refused : (e : Refusal) → refusal_number e ≡ grid_says m w h → refusal_number e ≡ native_says m w h n
  unfolding grid_says native_says
  native_refused e given = refused_first (grid_checks m w h) high e given

  module _ (z : grid_says m w h ≡ 0) where
    pub native-4 : 65535 < n → 4 ≡ native_says m w h n
    unfolding grid_says native_says
    native-4 lt = sym (checks-after (grid_checks m w h) high z ∙ rw (lt-ltb 65535 n lt))

    pub native-0 : n ≤ 65535 → native_says m w h n ≡ 0
    unfolding grid_says native_says
    native-0 le = checks-after (grid_checks m w h) high z ∙ rw (le-ltb 65535 n le)

pub ruleset number_rules = (native_refused, native-4, native-0, number_refused, number_done, grid-of)
