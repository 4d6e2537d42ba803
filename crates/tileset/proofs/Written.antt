-- What was written holds the set: each cell's bytes, unpacked, are the cell's pixels, and so are those of a tile of a native size.
-- Assumes nothing.
use mathlib.Core.Path.{◌≡◌, refl, sym, ap, ◌∙◌, subst}
use mathlib.Core.Bool.{Bool, true, false, cond, ◌&&◌}
use mathlib.Core.List.{List}
use Prim.Native.Nat.{ℕ, ◌+◌, ◌-◌, ◌*◌, ◌/◌, ◌%◌, ◌^◌, ◌<◌, ◌≤◌}
use native.Mathlib.Nat.{add-mul, div-add-mod', zero-mul, mul_comm, mod-lt, mul-le-mul_right, le-div_iff_mul-le}
use native.Mathlib.Omega.{arith}
use lib.Dec.{T, ltb, eqb}
use lib.ListN.{length, get_or, take, drop, replicate, get_or-replicate, length-drop}
use lib.Pow.{pow_pos}
use lib.Seq.{get_or-take, get_or-drop, length-take-le}
use borrow.Author.Tests.{leb-false, ltb-true, eqb-true}
use Rattle.words.proofs.Items.{item-at, item-inside, none-at, number_at}
use Rattle.mode.specs.Table.{pce-sprite}
use Rattle.tile.specs.Tile.{is_native, packing_of, packed, unpacked, too_large}
use Rattle.tile.proofs.Native.{Native, fitting}
use Rattle.tile.proofs.Laws.{pixels-back-in}
use Rattle.flip.proofs.Group.{place-lt}
use Rattle.tileset.specs.Sets.{area, held_says}
use Rattle.tileset.specs.Numbers.{row_cells, starts_at, first_cell, Grid}
use Rattle.tileset.specs.Writing.{padded_cells, cell_count, corner_of, block, tile_at, corner_at, cell_pixels, cells_of, sprite_bytes, cell_bytes, set_bytes, write_says}
use Rattle.tileset.specs.declared.Set.{Set}
use Rattle.tileset.proofs.Sizes.{IsSet, grid-set}
use Rattle.tileset.proofs.Says.{held-set}
use Rattle.tileset.proofs.NumberLaws.{belongs-start, row-start, column-start, single-starts}
use Rattle.tileset.proofs.WritingLaws.{block_at, block-length, native-cell, native-tile, held-inside, corner-counted, cell-length, tile-length, cell_set, tiles-set, cell-there, write-held, write-small}

-- n pixels, each below 2^d
abbrev Small : ℕ → ℕ → List ℕ → Type 0
Small n d pixels = (length pixels ≡ n) × ((i : ℕ) → i < n → get_or pixels i 0 < 2 ^ d)

-- a native tile of small pixels, packed and unpacked
back : {m d w h : ℕ} → Native m d w h → (pixels : List ℕ) → Small (w * h) d pixels → unpacked m d w h (packed m d w h pixels) ≡ pixels
back {m} {d} {w} {h} n pixels small =
    let f = fitting n in
    pixels-back-in (packing_of m d w h) f.sound pixels (small.0 ∙ sym f.pixels)
    (λ i l. subst (λ (k : ℕ). get_or pixels i 0 < 2 ^ k) (sym f.bits) (small.1 i (rw f.pixels at l)))

module _ (z : Set) (store : List ℕ) (space : ℕ) (done : write_says z store space ≡ 0) where
  held : held_says z (length store) ≡ 0
  held = write-held z store space done

  -- each counted pixel is below 2^depth
  small_at : (i : ℕ) → i < z.stored * area z → get_or store i 0 < 2 ^ z.depth
  small_at i l = leb-false (2 ^ z.depth) (get_or store i 0) (none-at (z.stored * area z) (too_large z.depth store) (write-small z store space done) i l)

  -- the block of a cell, or a blank one
  module _ (other : z.mode ≡ pce-sprite → ⊥) (c : ℕ) where
    abbrev corner : ℕ
    corner = corner_at z c

    block-small : tile_at z c < z.stored → (i : ℕ) → i < 64 → get_or (block store corner z.width) i 0 < 2 ^ z.depth
    block-small lt i l =
        let inside = block_at z.width corner (z.stored * area z) i (corner-counted z (length store) held other c lt) l in
        rw (number_at 64 (λ k. get_or store (corner + k / 8 * z.width + k % 8) 0) i l) (small_at (corner + i / 8 * z.width + i % 8) inside)

    case : (b : Bool) → ltb (tile_at z c) z.stored ≡ b → Small 64 z.depth (cond b (block store corner z.width) (replicate 64 0))
    case true e = (block-length store corner z.width, block-small (ltb-true (tile_at z c) z.stored e))
    case false e = (refl, λ i l. rw (get_or-replicate {A = ℕ} 64 i 0 0 l) (pow_pos z.depth))

    -- a written cell, unpacked
    pub cell-back : c < cells_of z → unpacked z.mode z.depth 8 8 (take (z.depth * 8) (drop (c * (z.depth * 8)) (set_bytes z store))) ≡ cell_pixels z store c
    unfolding cell_pixels
    cell-back lt =
        let bytes = ap (λ (l : List ℕ). take (z.depth * 8) (drop (c * (z.depth * 8)) l)) (sym (cell_set z store held other).0)
        ∙ item-at (z.depth * 8) (cell_bytes z store) (cell-length z (length store) held other store) (cells_of z) c lt in
        ap (unpacked z.mode z.depth 8 8) bytes
        ∙ back (native-cell (held-set z (length store) held) other) (cell_pixels z store c) (case (ltb (tile_at z c) z.stored) refl)

  -- a written tile of a native size, unpacked
  pub native-back : T (is_native z.mode z.width z.height) → (i : ℕ) → i < z.stored
      → unpacked z.mode z.depth z.width z.height (take (area z * z.depth / 8) (drop (i * (area z * z.depth / 8)) (set_bytes z store)))
      ≡ take (area z) (drop (i * area z) store)
  native-back size i lt =
      let n = area z in
      let inside : i * n + n ≤ z.stored * n = item-inside n z.stored i lt in
      let fits : z.stored * n ≤ length store = held-inside z (length store) held in
      let len : length (take n (drop (i * n) store)) ≡ n = length-take-le n (drop (i * n) store) (omega (arith, length-drop (i * n) store)) in
      let bytes = ap (λ (l : List ℕ). take (n * z.depth / 8) (drop (i * (n * z.depth / 8)) l)) (sym (tiles-set z store held size))
      ∙ item-at (n * z.depth / 8) (sprite_bytes z store) (tile-length z store held size) z.stored i lt in
      ap (unpacked z.mode z.depth z.width z.height) bytes
      ∙ back (native-tile z store held size) (take n (drop (i * n) store))
      (len, λ j l. rw (get_or-take n (drop (i * n) store) j 0 l, get_or-drop (i * n) store j 0) (small_at (i * n + j) (omega arith)))

-- ---- every pixel of a stored tile is in a written cell

zero_of : (n : ℕ) → n < 1 → n ≡ 0
zero_of n h = omega arith

module _ (z : Set) (store : List ℕ) (space : ℕ) (done : write_says z store space ≡ 0) (other : z.mode ≡ pce-sprite → ⊥)
    (t y x : ℕ) (ht : t < z.stored) (hy : y < z.height) (hx : x < z.width) where
  abbrev r : ℕ
  r = row_cells z.mode

  abbrev cell : ℕ
  cell = first_cell z.mode z.width z.height t + y / 8 * r + x / 8

  sound : IsSet z.mode z.depth z.width z.height
  sound = held-set z (length store) (write-held z store space done)

  grid : Grid r (z.width / 8) (z.height / 8)
  grid = grid-set sound other

  row-in : y / 8 < z.height / 8
  row-in = omega (arith, sound.down)

  column-in : x / 8 < z.width / 8
  column-in = omega (arith, sound.across)

  tile-is : tile_at z cell ≡ t
  tile-is = belongs-start r (z.width / 8) (z.height / 8) grid t (y / 8) (x / 8) row-in column-in

  corner-is : corner_at z cell ≡ t * area z + y / 8 * 8 * z.width + x / 8 * 8
  unfolding corner_of
  corner-is =
      ap (λ (k : ℕ). k * area z + cell / r % (z.height / 8) * 8 * z.width + cell % r % (z.width / 8) * 8) tile-is
      ∙ ap (λ (k : ℕ). t * area z + k * 8 * z.width + cell % r % (z.width / 8) * 8) (row-start r (z.width / 8) (z.height / 8) grid t (y / 8) (x / 8) row-in column-in)
      ∙ ap (λ (k : ℕ). t * area z + y / 8 * 8 * z.width + k * 8) (column-start r (z.width / 8) (z.height / 8) grid t (y / 8) (x / 8) row-in column-in)

  -- pixel (y, x) of tile t is pixel (y mod 8, x mod 8) of the cell in row y/8 and column x/8 of the tile
  pub tile-pixel : get_or (cell_pixels z store cell) (y % 8 * 8 + x % 8) 0 ≡ get_or store (t * area z + y * z.width + x) 0
  tile-pixel =
      let corner = corner_at z cell in
      let j = y % 8 * 8 + x % 8 in
      let small : j < 64 = omega arith in
      let row : j / 8 ≡ y % 8 = omega arith in
      let column : j % 8 ≡ x % 8 = omega arith in
      let there : t < z.stored → tile_at z cell < z.stored = λ l. omega (arith, tile-is) in
      let place : corner + y % 8 * z.width + x % 8 ≡ t * area z + y * z.width + x =
      omega (arith, corner-is, add-mul (y / 8 * 8) (y % 8) z.width, ap (λ (k : ℕ). k * z.width) (div-add-mod' y 8), div-add-mod' x 8) in
      ap (λ (l : List ℕ). get_or l j 0) (sym (cell-there z store cell (there ht)))
      ∙ number_at 64 (λ k. get_or store (corner + k / 8 * z.width + k % 8) 0) j small
      ∙ ap (λ (k : ℕ). get_or store (corner + k * z.width + j % 8) 0) row
      ∙ ap (λ (k : ℕ). get_or store (corner + y % 8 * z.width + k) 0) column
      ∙ ap (λ (k : ℕ). get_or store k 0) place

  -- and that cell is written
  abbrev tiles : ℕ
  tiles = r / (z.width / 8)

  padded-in : cell < padded_cells r (z.width / 8) (z.height / 8) z.stored
  unfolding padded_cells starts_at
  padded-in =
      let high = z.height / 8 in
      let wide = z.width / 8 in
      let q = t / tiles in
      let rows : q + 1 ≤ (z.stored + (tiles - 1)) / tiles = (le-div_iff_mul-le {k = tiles} grid.tiles).1 (omega (arith, add-mul q 1 tiles, div-add-mod' t tiles, grid.tiles)) in
      let down : (q + 1) * high ≤ (z.stored + (tiles - 1)) / tiles * high = mul-le-mul_right high rows in
      let all : (q + 1) * high * r ≤ (z.stored + (tiles - 1)) / tiles * high * r = mul-le-mul_right r down in
      let near : (q * high + y / 8 + 1) * r ≤ (q + 1) * high * r = mul-le-mul_right r (omega (arith, add-mul q 1 high, row-in)) in
      let across : t % tiles * wide + x / 8 < wide * tiles = place-lt wide tiles (t % tiles) (x / 8) (mod-lt t grid.tiles) column-in in
      omega (arith, add-mul (q * high) (y / 8) r, add-mul (q * high + y / 8) 1 r, grid.row, mul_comm wide tiles)

  single-in : z.width ≡ 8 → z.height ≡ 8 → cell < z.stored
  single-in ew eh =
      let wide : z.width / 8 ≡ 1 = omega arith in
      let high : z.height / 8 ≡ 1 = omega arith in
      let same : first_cell z.mode z.width z.height t ≡ t =
      ap (λ (k : ℕ). starts_at r k (z.height / 8) t) wide ∙ ap (λ (k : ℕ). starts_at r 1 k t) high ∙ single-starts r t in
      let top : y / 8 * r ≡ 0 = ap (λ (k : ℕ). k * r) (zero_of (y / 8) (omega arith)) ∙ zero-mul r in
      omega (arith, same, top)

  in-case : (a b : Bool) → eqb z.width 8 ≡ a → eqb z.height 8 ≡ b → cell < cond (a && b) z.stored (padded_cells r (z.width / 8) (z.height / 8) z.stored)
  in-case true true e f = single-in (eqb-true z.width 8 e) (eqb-true z.height 8 f)
  in-case true false e f = padded-in
  in-case false b e f = padded-in

  pub cell-written : cell < cells_of z
  unfolding cell_count
  cell-written = in-case (eqb z.width 8) (eqb z.height 8) refl refl
