-- Writing a set and reading it: its tiles, and blank ones to the end of the last row of tiles, where they stand in rows.
-- Assumes nothing.
use mathlib.Core.Path.{◌≡◌, refl, sym, ap, ◌∙◌, subst}
use mathlib.Core.Bool.{Bool, true, false}
use mathlib.Core.List.{List, ◌++◌, append-nil}
use Prim.Native.Nat.{ℕ, ◌+◌, ◌-◌, ◌*◌, ◌/◌, ◌%◌, ◌<◌, ◌≤◌}
use native.Mathlib.Nat.{mod-lt, mul-le-mul_right, mul_assoc, add-mul, zero-mul, add-zero, zero-div, div-add-mod', mul-div_cancel, mul-mod_left}
use native.Mathlib.Omega.{arith}
use lib.Dec.{T, ltb, eqb}
use lib.ListN.{length, get_or, take, drop, replicate, get_or-replicate, length-replicate, length-append, length-drop, get_or-append}
use lib.Seq.{get_or-take, get_or-drop, get_or-append-add, length-take-le}
use borrow.Author.Tests.{ltb-true, ltb-false, ne_eqb, eqb-true, eqb-false}
use Rattle.words.specs.Loops.{each}
use Rattle.words.proofs.Items.{item-inside, each-eq, parts, whole_parts}
use Rattle.mode.specs.Table.{pce-sprite}
use Rattle.tile.specs.Tile.{is_native}
use Rattle.flip.proofs.Group.{place-lt}
use Rattle.tileset.specs.Sets.{area, set_says, held_says}
use Rattle.tileset.specs.Numbers.{row_cells, first_cell, Grid}
use Rattle.tileset.specs.Writing.{padded_cells, cell_count, cell_pixels, cells_of, set_bytes, write_says}
use Rattle.tileset.specs.Reading.{whole_tiles, tile_size, read_count, read_says, pixel_in, tile_in, read_pixels, padded_tiles, tile_count}
use Rattle.tileset.specs.declared.Set.{Set}
use Rattle.tileset.proofs.Sizes.{IsSet, grid-set, bits-some}
use Rattle.tileset.proofs.Says.{held-set, held-says-set}
use Rattle.tileset.proofs.NumberLaws.{belongs-start}
use Rattle.tileset.proofs.WritingLaws.{wide-cells, tall-cells, in_cells, native-tile, held-inside, write-held, cell_set, cells-space, written-size, tiles-space, cell-blank}
use Rattle.tileset.proofs.Written.{cell-back, native-back, tile-pixel}
use Rattle.tileset.proofs.ReadingLaws.{strip-some, tile-complete, whole-tiles-are, cells-before, cell-unit, cell-count, read-0, cell-pixel}
use Rattle.tileset.proofs.Straight.{rows-of, tile-straight, native-all, native-read}

-- What reading the bytes of a written set gives: its tiles and blank ones, and no refusal where there is room for them.
pub record ReadsBack (z : Set) (store : List ℕ) : Type 0 where
  pub count : read_count z.mode z.depth z.width z.height (length (set_bytes z store)) ≡ tile_count z.mode z.width z.height z.stored
  pub pixels :
      read_pixels z.mode z.depth z.width z.height (set_bytes z store)
      ≡ take (z.stored * area z) store ++ replicate ((tile_count z.mode z.width z.height z.stored - z.stored) * area z) 0
  pub passes :
      (left : ℕ) → tile_count z.mode z.width z.height z.stored * area z ≤ left → tile_count z.mode z.width z.height z.stored ≤ 65535
      → read_says z.mode z.depth z.width z.height (length (set_bytes z store)) left ≡ 0

-- ---- how many tiles the written cells hold

module _ (r h v : ℕ) (g : Grid r h v) where
  -- whole strips of cells
  pub whole-strips : (q : ℕ) → whole_tiles r h v (q * v * r) ≡ q * (r / h)
  whole-strips q =
      let some : 0 < v * r = strip-some r h v g in
      let none : 0 - (v - 1) * r ≡ 0 = omega arith in
      whole-tiles-are r h v g (q * v * r)
      ∙ rw (mul_assoc q v r, mul-div_cancel q {n = v * r} some, mul-mod_left q (v * r))
      (ap (λ (k : ℕ). q * (r / h) + k / h) none ∙ ap (λ (k : ℕ). q * (r / h) + k) (zero-div h) ∙ add-zero (q * (r / h)))

  padded-tiles : (n : ℕ) → whole_tiles r h v (padded_cells r h v n) ≡ padded_tiles (r / h) n
  unfolding padded_cells
  padded-tiles n = whole-strips ((n + (r / h - 1)) / (r / h))

  padded-more : (n : ℕ) → n ≤ padded_tiles (r / h) n
  padded-more n = omega (arith, div-add-mod' (n + (r / h - 1)) (r / h), mod-lt (n + (r / h - 1)) g.tiles, g.tiles)

-- tiles that are not of a native size fill whole rows
module _ {m d w h : ℕ} (s : IsSet m d w h) (many : is_native m w h ≡ false) (n : ℕ) where
  grid : Grid (row_cells m) (w / 8) (h / 8)
  grid = grid-set s (in_cells s many)

  no_cell : w ≡ 8 → h ≡ 8 → ⊥
  no_cell ew eh = subst T (rw (ew, eh, ne_eqb m pce-sprite (in_cells s many)) at many) tt

  cells-case : (b : Bool) → eqb w 8 ≡ b → padded_cells (row_cells m) (w / 8) (h / 8) n ≡ cell_count m w h n
  cells-case true e = tall-cells m w h n (no_cell (eqb-true w 8 e))
  cells-case false e = wide-cells m w h n (eqb-false w 8 e)

  pub rows-cells : padded_cells (row_cells m) (w / 8) (h / 8) n ≡ cell_count m w h n
  rows-cells = cells-case (eqb w 8) refl

  rows-tiles : padded_tiles (row_cells m / (w / 8)) n ≡ tile_count m w h n
  unfolding tile_count
  rows-tiles = rw many

  count-is : whole_tiles (row_cells m) (w / 8) (h / 8) (cell_count m w h n) ≡ tile_count m w h n
  count-is = ap (whole_tiles (row_cells m) (w / 8) (h / 8)) (sym rows-cells) ∙ padded-tiles (row_cells m) (w / 8) (h / 8) grid n ∙ rows-tiles

  count-more : n ≤ tile_count m w h n
  count-more = rw (← rows-tiles) (padded-more (row_cells m) (w / 8) (h / 8) grid n)

-- ---- what was written is read: tiles in cells

module _ (z : Set) (store : List ℕ) (space : ℕ) (done : write_says z store space ≡ 0) (many : is_native z.mode z.width z.height ≡ false) where
  abbrev bytes : List ℕ
  bytes = set_bytes z store

  abbrev count : ℕ
  count = tile_count z.mode z.width z.height z.stored

  -- the stored tiles, and blank ones
  abbrev front : List ℕ
  front = take (z.stored * area z) store

  abbrev blanks : List ℕ
  blanks = replicate ((count - z.stored) * area z) 0

  abbrev tiles : List ℕ
  tiles = front ++ blanks

  held : held_says z (length store) ≡ 0
  held = write-held z store space done

  sound : IsSet z.mode z.depth z.width z.height
  sound = held-set z (length store) held

  other : z.mode ≡ pce-sprite → ⊥
  other = in_cells sound many

  bytes-long : length bytes ≡ cells_of z * (z.depth * 8)
  bytes-long = sym (cell_set z store held other).1 ∙ cells-space z store held other

  some : 0 < z.depth * 8
  some = omega (arith, bits-some sound)

  cells-there : length bytes / (z.depth * 8) ≡ cells_of z
  cells-there = ap (λ (k : ℕ). k / (z.depth * 8)) bytes-long ∙ mul-div_cancel (cells_of z) {n = z.depth * 8} some

  read_count_lem : read_count z.mode z.depth z.width z.height (length bytes) ≡ count
  read_count_lem =
      sym (cell-count z.mode z.depth z.width z.height (length bytes) other)
      ∙ ap (λ (k : ℕ). whole_tiles (row_cells z.mode) (z.width / 8) (z.height / 8) k) cells-there
      ∙ count-is sound many z.stored

  stored-in : z.stored ≤ count
  stored-in = count-more sound many z.stored

  front_long : length front ≡ z.stored * area z
  front_long = length-take-le (z.stored * area z) store (held-inside z (length store) held)

  -- the pixels of all tiles, and of those stored
  all-is : (count - z.stored) * area z + z.stored * area z ≡ count * area z
  all-is =
      let whole : count - z.stored + z.stored ≡ count = omega (arith, stored-in) in
      sym (add-mul (count - z.stored) z.stored (area z)) ∙ ap (λ (k : ℕ). k * area z) whole

  tiles-long : length tiles ≡ count * area z
  tiles-long = length-append front blanks ∙ omega (arith, front_long, length-replicate {A = ℕ} ((count - z.stored) * area z) 0, all-is)

  -- pixel (y, x) of tile t
  module _ (t y x : ℕ) (ht : t < count) (hy : y < z.height) (hx : x < z.width) where
    abbrev r : ℕ
    r = row_cells z.mode

    abbrev cell : ℕ
    cell = first_cell z.mode z.width z.height t + y / 8 * r + x / 8

    abbrev j : ℕ
    j = y % 8 * 8 + x % 8

    row-in : y / 8 < z.height / 8
    row-in = omega (arith, sound.down)

    column-in : x / 8 < z.width / 8
    column-in = omega (arith, sound.across)

    cell-there : cell < cells_of z
    cell-there =
        let whole : t < whole_tiles r (z.width / 8) (z.height / 8) (cells_of z) = omega (arith, count-is sound many z.stored) in
        omega (arith, cells-before r (z.width / 8) (z.height / 8) t (y / 8) (x / 8) row-in column-in, tile-complete r (z.width / 8) (z.height / 8) (cells_of z) t whole)

    unpacked-is : pixel_in z.mode z.depth z.width z.height bytes t y x ≡ get_or (cell_pixels z store cell) j 0
    unpacked-is =
        sym (cell-pixel z.mode z.depth z.width z.height bytes t y x other)
        ∙ ap (λ (l : List ℕ). get_or l j 0) (cell-back z store space done other cell cell-there)

    abbrev place : ℕ
    place = t * area z + y * z.width + x

    in_area : y * z.width + x < area z
    in_area = place-lt z.width z.height y x hy hx

    pixel-case : (b : Bool) → ltb t z.stored ≡ b → get_or (cell_pixels z store cell) j 0 ≡ get_or tiles place 0
    pixel-case true e =
        let lt = ltb-true t z.stored e in
        let inside : place < z.stored * area z = omega (arith, in_area, item-inside (area z) z.stored t lt) in
        tile-pixel z store space done other t y x lt hy hx
        ∙ sym (get_or-take (z.stored * area z) store place 0 inside)
        ∙ sym (get_or-append front blanks 0 place (omega (arith, front_long)))
    pixel-case false e =
        let le = ltb-false t z.stored e in
        let from : z.stored * area z ≤ t * area z = mul-le-mul_right (area z) le in
        let tile-is = belongs-start r (z.width / 8) (z.height / 8) (grid-set sound other) t (y / 8) (x / 8) row-in column-in in
        let blank = cell-blank z store cell (omega (arith, tile-is)) in
        let past = place - z.stored * area z in
        let inside : past < (count - z.stored) * area z = omega (arith, in_area, item-inside (area z) count t ht, all-is) in
        let place_is : place ≡ length front + past = omega (arith, front_long) in
        ap (λ (l : List ℕ). get_or l j 0) (sym blank)
        ∙ get_or-replicate {A = ℕ} 64 j 0 0 (omega arith)
        ∙ sym (ap (λ (k : ℕ). get_or tiles k 0) place_is
        ∙ get_or-append-add front blanks past 0
        ∙ get_or-replicate {A = ℕ} ((count - z.stored) * area z) past 0 0 inside)

    pixel-back : pixel_in z.mode z.depth z.width z.height bytes t y x ≡ get_or tiles place 0
    pixel-back = unpacked-is ∙ pixel-case (ltb t z.stored) refl

  tile-back : (t : ℕ) → t < count → tile_in z.mode z.depth z.width z.height bytes t ≡ take (area z) (drop (t * area z) tiles)
  tile-back t ht =
      let from = drop (t * area z) tiles in
      let long = length-take-le (area z) from (omega (arith, length-drop (t * area z) tiles, tiles-long, item-inside (area z) count t ht)) in
      rows-of z.width z.height (take (area z) from) (pixel_in z.mode z.depth z.width z.height bytes t) long
      (λ y x hy hx.
      let j = y * z.width + x in
      let place : t * area z + y * z.width + x ≡ t * area z + j = omega arith in
      pixel-back t y x ht hy hx
      ∙ ap (λ (k : ℕ). get_or tiles k 0) place
      ∙ sym (get_or-take (area z) from j 0 (place-lt z.width z.height y x hy hx) ∙ get_or-drop (t * area z) tiles j 0))

  pixels-back : read_pixels z.mode z.depth z.width z.height bytes ≡ tiles
  unfolding read_pixels
  pixels-back =
      ap (λ (k : ℕ). each k (tile_in z.mode z.depth z.width z.height bytes)) read_count_lem
      ∙ each-eq count (tile_in z.mode z.depth z.width z.height bytes) (λ t. take (area z) (drop (t * area z) tiles)) tile-back
      ∙ whole_parts (area z) count tiles tiles-long

  cells-passed : (left : ℕ) → count * area z ≤ left → count ≤ 65535 → read_says z.mode z.depth z.width z.height (length bytes) left ≡ 0
  cells-passed left fits few =
      let unit = cell-unit z.mode z.depth z.width z.height (length bytes) other in
      let whole = ap (λ (k : ℕ). length bytes % k) (sym unit) ∙ ap (λ (k : ℕ). k % (z.depth * 8)) bytes-long ∙ mul-mod_left (cells_of z) (z.depth * 8) in
      sym (read-0 z.mode z.depth z.width z.height (length bytes) left (held-says-set z (length store) held) whole (rw read_count_lem fits) (rw read_count_lem few))

  cells-back : ReadsBack z store
  cells-back = record { count = read_count_lem; pixels = pixels-back; passes = cells-passed }

-- ---- tiles of a native size, sprites and 8x8: they are as many as were stored

module _ (z : Set) (store : List ℕ) (space : ℕ) (done : write_says z store space ≡ 0) (one : is_native z.mode z.width z.height ≡ true) where
  sized : T (is_native z.mode z.width z.height)
  sized = subst T (sym one) tt

  abbrev written : List ℕ
  written = set_bytes z store

  fits : held_says z (length store) ≡ 0
  fits = write-held z store space done

  allowed : set_says z.mode z.depth z.width z.height ≡ 0
  allowed = held-says-set z (length store) fits

  written-long : length written ≡ z.stored * tile_size z.depth z.width z.height
  written-long = written-size z store fits ∙ sym (tiles-space z store fits sized)

  stored-are : tile_count z.mode z.width z.height z.stored ≡ z.stored
  unfolding tile_count
  stored-are = rw one

  stored-read : read_count z.mode z.depth z.width z.height (length written) ≡ z.stored
  stored-read = rw written-long (native-all z.mode z.depth z.width z.height allowed sized z.stored)

  no-blanks : (tile_count z.mode z.width z.height z.stored - z.stored) * area z ≡ 0
  no-blanks =
      let none : tile_count z.mode z.width z.height z.stored - z.stored ≡ 0 = omega (arith, stored-are) in
      ap (λ (k : ℕ). k * area z) none ∙ zero-mul (area z)

  stored-pixels : read_pixels z.mode z.depth z.width z.height written ≡ take (z.stored * area z) store
  unfolding read_pixels
  stored-pixels =
      ap (λ (k : ℕ). each k (tile_in z.mode z.depth z.width z.height written)) stored-read
      ∙ each-eq z.stored (tile_in z.mode z.depth z.width z.height written) (λ i. take (area z) (drop (i * area z) store))
      (λ i lt. tile-straight (native-tile z store fits sized) written i ∙ native-back z store space done sized i lt)
      ∙ parts (area z) z.stored store (held-inside z (length store) fits)

  tiles-passed : (left : ℕ) → tile_count z.mode z.width z.height z.stored * area z ≤ left → tile_count z.mode z.width z.height z.stored ≤ 65535
      → read_says z.mode z.depth z.width z.height (length written) left ≡ 0
  tiles-passed left = rw (stored-are, written-long) (native-read z.mode z.depth z.width z.height allowed sized z.stored left)

  tiles-back : ReadsBack z store
  tiles-back =
      record {
        count = stored-read ∙ sym stored-are;
        pixels = stored-pixels ∙ sym (ap (λ (k : ℕ). take (z.stored * area z) store ++ replicate k 0) no-blanks ∙ append-nil (take (z.stored * area z) store));
        passes = tiles-passed;
      }

-- ---- in every mode

module _ (z : Set) (store : List ℕ) (space : ℕ) (done : write_says z store space ≡ 0) where
  back-case : (b : Bool) → is_native z.mode z.width z.height ≡ b → ReadsBack z store
  back-case true e = tiles-back z store space done e
  back-case false e = cells-back z store space done e

  -- a set that was written reads back
  pub write-then-read : ReadsBack z store
  write-then-read = back-case (is_native z.mode z.width z.height) refl
