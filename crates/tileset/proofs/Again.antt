-- Reading bytes and writing what was read gives the same bytes exactly where they are whole rows of tiles, which sprites and 8x8 tiles always
-- are; elsewhere each tile that was read is back in its place, and the rest of the last row of tiles is blank.
-- Assumes nothing.
use mathlib.Core.Path.{◌≡◌, refl, sym, ap, ap₂, ◌∙◌, subst}
use mathlib.Core.Bool.{Bool, true, false, cond}
use mathlib.Core.List.{List, [], ◌∷◌, ◌++◌}
use Prim.Native.Nat.{ℕ, zero, suc, ◌+◌, ◌-◌, ◌*◌, ◌/◌, ◌%◌, ◌^◌, ◌<◌, ◌≤◌}
use native.Mathlib.Nat.{zero-div, zero-mod, mod-lt, add-mul, mul_assoc, mul-div_cancel, mul-mod_left, div-add-mod', div-lt_iff_lt-mul, le-div_iff_mul-le}
use native.Mathlib.Omega.{arith}
use lib.Dec.{T, ltb}
use lib.ListN.{length, get_or, take, drop, replicate, length-replicate, length-drop, get_or-append}
use lib.Seq.{length-take-le}
use borrow.Author.Tests.{lt-ltb, ltb-true, ltb-false, ne_eqb}
use Rattle.words.specs.Bytes.{are_bytes}
use Rattle.words.specs.Loops.{each}
use Rattle.words.proofs.Bytes.{bytes_take, bytes_drop}
use Rattle.words.proofs.Filling.{each_of}
use Rattle.words.proofs.Items.{each-eq, item-inside, item-get_or, number_at, whole_parts}
use Rattle.words.proofs.Loops.{length-each}
use Rattle.mode.specs.Table.{pce-sprite}
use Rattle.tile.specs.Bits.{bit_of}
use Rattle.tile.specs.Layout.{Side, element, spread}
use Rattle.tile.specs.Tile.{is_native, packing_of, layout_of, packed, unpacked}
use Rattle.tile.proofs.Bits.{bits-same, bits_of}
use Rattle.tile.proofs.Filling.{spread-is}
use Rattle.tile.proofs.Native.{Native, fitting}
use Rattle.tile.proofs.Laws.{bytes-back-in}
use Rattle.flip.proofs.Group.{place-lt}
use Rattle.tileset.specs.Sets.{held_says}
use Rattle.tileset.specs.Numbers.{row_cells, belongs_to, first_cell, tile_of, Grid}
use Rattle.tileset.specs.Writing.{padded_cells, cell_count, corner_of, corner_at, cell_pixels, cell_bytes, sprite_bytes, set_bytes}
use Rattle.tileset.specs.Reading.{whole_tiles, tile_size, unit_bytes, read_count, read_set, cell_in, pixel_in, row_in, tile_in, read_pixels, cell_again, bytes_again, row_bytes}
use Rattle.tileset.specs.declared.Set.{Set}
use Rattle.tileset.proofs.Sizes.{IsSet, grid-set, bits-some}
use Rattle.tileset.proofs.NumberLaws.{row-some, start-belongs}
use Rattle.tileset.proofs.TilesRead.{item-front}
use Rattle.tileset.proofs.WritingLaws.{native-cell, in_cells, tiles-set, cell-there, cell-blank, cell_set, cells-space}
use Rattle.tileset.proofs.ReadingLaws.{cell-count, cell-size, cell-in-length, cells-before, tile-complete, cell-pixel, row-in-length, tile-length}
use Rattle.tileset.proofs.Straight.{native-unit, native-count, tile-straight}
use Rattle.tileset.proofs.ReadBack.{whole-strips, rows-cells}

-- ---- a part of the bytes, unpacked and packed again; and a blank cell's bytes

module _ {m d w h : ℕ} (n : Native m d w h) (bytes : List ℕ) (are : T (are_bytes bytes)) where
  -- the tile from place from on
  part-again : (from : ℕ) → from + tile_size d w h ≤ length bytes
      → packed m d w h (unpacked m d w h (take (tile_size d w h) (drop from bytes))) ≡ take (tile_size d w h) (drop from bytes)
  part-again from inside =
      let size = tile_size d w h in
      let long : length (take size (drop from bytes)) ≡ size = length-take-le size (drop from bytes) (omega (arith, length-drop from bytes)) in
      bytes-back-in (packing_of m d w h) (fitting n).sound (take size (drop from bytes)) (long ∙ sym (fitting n).bytes)
      (bytes_take size (drop from bytes) (bytes_drop from bytes are))

zero-at : (n i : ℕ) → get_or (replicate {A = ℕ} n 0) i 0 ≡ 0
zero-at zero i = refl
zero-at (suc n) zero = refl
zero-at (suc n) (suc i) = zero-at n i

-- no bit is set where none was
no_bits : (s : Side) (n k : ℕ) → element s (replicate n 0) k ≡ 0
no_bits s n k =
    bits-same s.bits 0 (λ j. bit_of (s.place k j) (get_or (replicate n 0) (s.from k j) 0)) (λ j. bit_of j 0)
    (λ j from to.
    ap (bit_of (s.place k j)) (zero-at n (s.from k j))
    ∙ ap (λ (v : ℕ). v % 2) (zero-div (2 ^ s.place k j) ∙ sym (zero-div (2 ^ j))))
    ∙ bits_of s.bits 0 0
    ∙ ap (λ (v : ℕ). v % 2 ^ s.bits) (zero-div (2 ^ 0))
    ∙ zero-mod (2 ^ s.bits)

spread-blank : (s : Side) (n : ℕ) → spread s (replicate n 0) ≡ replicate s.count 0
spread-blank s n =
    let blank = replicate {A = ℕ} s.count 0 in
    sym (spread-is s (replicate n 0) s.count refl)
    ∙ each-eq s.count (λ k. element s (replicate n 0) k ∷ []) (λ k. get_or blank k 0 ∷ [])
    (λ k lt. ap (λ (v : ℕ). v ∷ []) (no_bits s n k ∙ sym (zero-at s.count k)))
    ∙ ap (λ (c : ℕ). each c (λ k. get_or blank k 0 ∷ [])) (sym (length-replicate {A = ℕ} s.count 0))
    ∙ each_of blank

pub blank-cell : {m d : ℕ} → Native m d 8 8 → packed m d 8 8 (replicate 64 0) ≡ replicate (d * 8) 0
blank-cell {m} {d} n = spread-blank (layout_of m d 8 8).bytes 64 ∙ ap (λ (k : ℕ). replicate {A = ℕ} k 0) ((fitting n).bytes ∙ cell-size d)

-- ---- what was read, in the store

-- pixel (y, x) of tile t, where more follows
pixel-at : (m d w h : ℕ) (bytes rest : List ℕ) (t y x : ℕ) → t < read_count m d w h (length bytes) → y < h → x < w
    → get_or (read_pixels m d w h bytes ++ rest) (t * (w * h) + (y * w + x)) 0 ≡ pixel_in m d w h bytes t y x
unfolding read_pixels
pixel-at m d w h bytes rest t y x ht hy hx =
    let n = read_count m d w h (length bytes) in
    let j = y * w + x in
    let small : j < w * h = place-lt w h y x hy hx in
    let inside : t * (w * h) + j < length (each n (tile_in m d w h bytes)) =
    omega (arith, length-each n (w * h) (tile_in m d w h bytes) (tile-length m d w h bytes), item-inside (w * h) n t ht) in
    get_or-append (each n (tile_in m d w h bytes)) rest 0 (t * (w * h) + j) inside
    ∙ item-get_or (w * h) (tile_in m d w h bytes) (tile-length m d w h bytes) n t ht j small
    ∙ item-get_or w (row_in m d w h bytes t) (row-in-length m d w h bytes t) h y hy x hx
    ∙ number_at w (pixel_in m d w h bytes t y) x hx

-- ---- tiles in cells: each cell of a tile that was read, and blank ones

module _ {m d w h : ℕ} (s : IsSet m d w h) (many : is_native m w h ≡ false) (flips : Bool) (bytes rest : List ℕ) (are : T (are_bytes bytes)) where
  other : m ≡ pce-sprite → ⊥
  other = in_cells s many

  abbrev n : ℕ
  n = read_count m d w h (length bytes)

  abbrev z : Set
  z = read_set m d w h flips n

  abbrev after : List ℕ
  after = read_pixels m d w h bytes ++ rest

  cell-native : Native m d 8 8
  cell-native = native-cell s other

  grid : Grid (row_cells m) (w / 8) (h / 8)
  grid = grid-set s other

  module _ (c : ℕ) (lt : tile_of m w h c < n) where
    abbrev row : ℕ
    row = c / row_cells m % (h / 8)

    abbrev column : ℕ
    column = c % row_cells m % (w / 8)

    row-in : row < h / 8
    row-in = mod-lt (c / row_cells m) grid.down

    column-in : column < w / 8
    column-in = mod-lt (c % row_cells m) grid.across

    -- the cell is the one in that row and column of its tile
    is-cell : first_cell m w h (tile_of m w h c) + row * row_cells m + column ≡ c
    is-cell = start-belongs (row_cells m) (w / 8) (h / 8) grid c

    pixel-again : (i : ℕ) → i < 64 → get_or after (corner_at z c + i / 8 * w + i % 8) 0 ≡ get_or (cell_in m d bytes c) i 0
    unfolding corner_of
    pixel-again i hi =
        let t = tile_of m w h c in
        let y = row * 8 + i / 8 in
        let x = column * 8 + i % 8 in
        let hy : y < h = omega (arith, row-in, s.down) in
        let hx : x < w = omega (arith, column-in, s.across) in
        let place : corner_at z c + i / 8 * w + i % 8 ≡ t * (w * h) + (y * w + x) = omega (arith, add-mul (row * 8) (i / 8) w) in
        let in_row : y / 8 ≡ row = omega arith in
        let in-column : x / 8 ≡ column = omega arith in
        let in_cell : y % 8 * 8 + x % 8 ≡ i = omega arith in
        ap (λ (k : ℕ). get_or after k 0) place
        ∙ pixel-at m d w h bytes rest t y x lt hy hx
        ∙ sym (cell-pixel m d w h bytes t y x other)
        ∙ ap₂ (λ (a b : ℕ). get_or (cell_in m d bytes (first_cell m w h t + a * row_cells m + b)) (y % 8 * 8 + x % 8) 0) in_row in-column
        ∙ ap₂ (λ (k j : ℕ). get_or (cell_in m d bytes k) j 0) is-cell in_cell

    pixels-again : cell_pixels z after c ≡ cell_in m d bytes c
    pixels-again =
        sym (cell-there z after c lt)
        ∙ each-eq 64 (λ i. get_or after (corner_at z c + i / 8 * w + i % 8) 0 ∷ []) (λ i. get_or (cell_in m d bytes c) i 0 ∷ [])
        (λ i hi. ap (λ (k : ℕ). k ∷ []) (pixel-again i hi))
        ∙ ap (λ (k : ℕ). each k (λ i. get_or (cell_in m d bytes c) i 0 ∷ [])) (sym (cell-in-length cell-native bytes c))
        ∙ each_of (cell_in m d bytes c)

    cell-inside : c * (d * 8) + d * 8 ≤ length bytes
    cell-inside =
        let whole : tile_of m w h c < whole_tiles (row_cells m) (w / 8) (h / 8) (length bytes / (d * 8)) = rw (cell-count m d w h (length bytes) other) lt in
        let last = tile-complete (row_cells m) (w / 8) (h / 8) (length bytes / (d * 8)) (tile_of m w h c) whole in
        let before = cells-before (row_cells m) (w / 8) (h / 8) (tile_of m w h c) row column row-in column-in in
        let some : 0 < d * 8 = omega (arith, bits-some s) in
        let there : (c + 1) * (d * 8) ≤ length bytes = (le-div_iff_mul-le {k = d * 8} some).0 (omega (arith, is-cell)) in
        omega (arith, add-mul c 1 (d * 8))

    there-again : cell_bytes z after c ≡ take (d * 8) (drop (c * (d * 8)) bytes)
    there-again =
        ap (packed m d 8 8) pixels-again
        ∙ subst (λ (k : ℕ). packed m d 8 8 (unpacked m d 8 8 (take k (drop (c * (d * 8)) bytes))) ≡ take k (drop (c * (d * 8)) bytes)) (cell-size d)
        (part-again cell-native bytes are (c * (d * 8)) (omega (arith, cell-inside)))

  cell-case : (c : ℕ) (b : Bool) → ltb (tile_of m w h c) n ≡ b → cell_bytes z after c ≡ cond b (take (d * 8) (drop (c * (d * 8)) bytes)) (replicate (d * 8) 0)
  cell-case c true e = there-again c (ltb-true (tile_of m w h c) n e)
  cell-case c false e = ap (packed m d 8 8) (sym (cell-blank z after c (ltb-false (tile_of m w h c) n e))) ∙ blank-cell cell-native

  cells-again : set_bytes z after ≡ bytes_again m d w h bytes
  unfolding set_bytes bytes_again
  cells-again =
      rw (many, ne_eqb m pce-sprite other)
      (each-eq (cell_count m w h n) (cell_bytes z after) (cell_again m d w h bytes n) (λ c lt. cell-case c (ltb (tile_of m w h c) n) refl))

-- ---- tiles of a native size, sprites and 8x8: each is back

module _ {m d w h : ℕ} (n : Native m d w h) (flips : Bool) (bytes rest : List ℕ) (are : T (are_bytes bytes)) (whole : length bytes % unit_bytes m d w h ≡ 0) where
  abbrev size : ℕ
  size = tile_size d w h

  abbrev tiles : ℕ
  tiles = read_count m d w h (length bytes)

  all_are : length bytes ≡ tiles * size
  all_are =
      let none : length bytes % size ≡ 0 = ap (λ (k : ℕ). length bytes % k) (sym (native-unit n)) ∙ whole in
      omega (arith, div-add-mod' (length bytes) size, ap (λ (k : ℕ). k * size) (native-count n (length bytes)))

  tile-again : (i : ℕ) → i < tiles → sprite_bytes (read_set m d w h flips tiles) (read_pixels m d w h bytes ++ rest) i ≡ take size (drop (i * size) bytes)
  unfolding read_pixels
  tile-again i lt =
      ap (packed m d w h) (item-front (w * h) (tile_in m d w h bytes) (tile-length m d w h bytes) tiles rest i lt ∙ tile-straight n bytes i)
      ∙ part-again n bytes are (i * size) (omega (arith, item-inside size tiles i lt, all_are))

  tiles-again : held_says (read_set m d w h flips tiles) (length (read_pixels m d w h bytes ++ rest)) ≡ 0
      → set_bytes (read_set m d w h flips tiles) (read_pixels m d w h bytes ++ rest) ≡ bytes
  tiles-again held =
      let z = read_set m d w h flips tiles in
      let after = read_pixels m d w h bytes ++ rest in
      sym (tiles-set z after held n.size)
      ∙ each-eq tiles (sprite_bytes z after) (λ i. take size (drop (i * size) bytes)) tile-again
      ∙ whole_parts size tiles bytes all_are

-- ---- whole rows of tiles

padded-is : (r h v n : ℕ) → padded_cells r h v n ≡ (n + (r / h - 1)) / (r / h) * v * r
unfolding padded_cells
padded-is r h v n = refl

-- so many cells of r in a row, v rows high, are those of as many rows of tiles, and all of them belong to these tiles
module _ (r h v : ℕ) (g : Grid r h v) (q : ℕ) where
  rows-padded : padded_cells r h v (q * (r / h)) ≡ q * v * r
  rows-padded =
      let t = r / h in
      let low : q ≤ (q * t + (t - 1)) / t = (le-div_iff_mul-le {k = t} g.tiles).1 (omega arith) in
      let high : (q * t + (t - 1)) / t < q + 1 = (div-lt_iff_lt-mul {k = t} g.tiles).1 (omega (arith, add-mul q 1 t, g.tiles)) in
      let rows : (q * t + (t - 1)) / t ≡ q = omega arith in
      padded-is r h v (q * t) ∙ ap (λ (k : ℕ). k * v * r) rows

  rows-belong : (c : ℕ) → c < q * v * r → belongs_to r h v c < q * (r / h)
  unfolding belongs_to
  rows-belong c lt =
      let some : 0 < r = row-some r h v g in
      let cells : c / r < q * v = (div-lt_iff_lt-mul {k = r} some).1 lt in
      let row : c / r / v < q = (div-lt_iff_lt-mul {k = v} g.down).1 cells in
      let inside : c % r < r / h * h = omega (arith, mod-lt c some, g.row) in
      let column : c % r / h < r / h = (div-lt_iff_lt-mul {k = h} g.across).1 inside in
      omega (arith, item-inside (r / h) q (c / r / v) row)

module _ {m d w h : ℕ} (s : IsSet m d w h) (many : is_native m w h ≡ false) (bytes : List ℕ) where
  abbrev r : ℕ
  r = row_cells m

  abbrev v : ℕ
  v = h / 8

  abbrev count : ℕ
  count = read_count m d w h (length bytes)

  by-cells : m ≡ pce-sprite → ⊥
  by-cells = in_cells s many

  -- so many bytes are so many rows
  row_is : (q : ℕ) → q * row_bytes m d w h ≡ q * v * r * (d * 8)
  unfolding row_bytes
  row_is q = rw many (sym (mul_assoc q (v * r) (d * 8)) ∙ ap (λ (k : ℕ). k * (d * 8)) (sym (mul_assoc q v r)))

  -- all cells are written, each where it was read
  rows_same : length bytes % row_bytes m d w h ≡ 0 → bytes_again m d w h bytes ≡ bytes
  unfolding bytes_again
  rows_same whole =
      let t = r / (w / 8) in
      let g = grid-set s by-cells in
      let q = length bytes / row_bytes m d w h in
      let some : 0 < d * 8 = omega (arith, bits-some s) in
      let long : length bytes ≡ q * v * r * (d * 8) = omega (arith, div-add-mod' (length bytes) (row_bytes m d w h), row_is q) in
      let cells : length bytes / (d * 8) ≡ q * v * r = ap (λ (k : ℕ). k / (d * 8)) long ∙ mul-div_cancel (q * v * r) {n = d * 8} some in
      let read : count ≡ q * t = sym (cell-count m d w h (length bytes) by-cells) ∙ ap (whole_tiles r (w / 8) v) cells ∙ whole-strips r (w / 8) v g q in
      let all : cell_count m w h count ≡ q * v * r = sym (rows-cells s many count) ∙ ap (padded_cells r (w / 8) v) read ∙ rows-padded r (w / 8) v g q in
      rw many
      (ap (λ (k : ℕ). each k (cell_again m d w h bytes count)) all
      ∙ each-eq (q * v * r) (cell_again m d w h bytes count) (λ c. take (d * 8) (drop (c * (d * 8)) bytes))
      (λ c lt. rw (lt-ltb (tile_of m w h c) count (rw read (rows-belong r (w / 8) v g q c lt))))
      ∙ whole_parts (d * 8) (q * v * r) bytes long)

  -- and bytes that are the same again are whole rows, for these are written
  same_rows : (flips : Bool) (after : List ℕ) → held_says (read_set m d w h flips count) (length after) ≡ 0
      → set_bytes (read_set m d w h flips count) after ≡ bytes → length bytes % row_bytes m d w h ≡ 0
  same_rows flips after held e =
      let z = read_set m d w h flips count in
      let q = (count + (r / (w / 8) - 1)) / (r / (w / 8)) in
      let all : cell_count m w h count ≡ q * v * r = sym (rows-cells s many count) ∙ padded-is r (w / 8) v count in
      let long : length bytes ≡ q * row_bytes m d w h =
      sym (ap length e) ∙ sym (cell_set z after held by-cells).1 ∙ cells-space z after held by-cells ∙ ap (λ (k : ℕ). k * (d * 8)) all ∙ sym (row_is q) in
      ap (λ (k : ℕ). k % row_bytes m d w h) long ∙ mul-mod_left q (row_bytes m d w h)

-- ---- in every mode

module _ {m d w h : ℕ} (s : IsSet m d w h) (flips : Bool) (bytes rest : List ℕ) (whole : length bytes % unit_bytes m d w h ≡ 0)
    (held : held_says (read_set m d w h flips (read_count m d w h (length bytes))) (length (read_pixels m d w h bytes ++ rest)) ≡ 0) where
  abbrev written : List ℕ
  written = set_bytes (read_set m d w h flips (read_count m d w h (length bytes))) (read_pixels m d w h bytes ++ rest)

  tiled : is_native m w h ≡ true → Native m d w h
  tiled one = record { mode = s.mode; depth = s.depth; size = subst T (sym one) tt }

  tiles-same : is_native m w h ≡ true → bytes ≡ bytes_again m d w h bytes
  unfolding bytes_again
  tiles-same one = rw one

  again-case : T (are_bytes bytes) → (b : Bool) → is_native m w h ≡ b → written ≡ bytes_again m d w h bytes
  again-case are true one = tiles-again (tiled one) flips bytes rest are whole held ∙ tiles-same one
  again-case are false many = cells-again s many flips bytes rest are

  pub written-again : T (are_bytes bytes) → written ≡ bytes_again m d w h bytes
  written-again are = again-case are (is_native m w h) refl

  -- the same bytes, where they are whole rows
  same_case : length bytes % row_bytes m d w h ≡ 0 → (b : Bool) → is_native m w h ≡ b → bytes_again m d w h bytes ≡ bytes
  same_case rows true one = sym (tiles-same one)
  same_case rows false many = rows_same s many bytes rows

  pub again-same : length bytes % row_bytes m d w h ≡ 0 → bytes_again m d w h bytes ≡ bytes
  again-same rows = same_case rows (is_native m w h) refl

  -- which those of a native size always are
  pub native-rows : is_native m w h ≡ true → length bytes % row_bytes m d w h ≡ 0
  unfolding row_bytes
  native-rows one = rw (one, ← native-unit (tiled one)) whole

  rows-case : written ≡ bytes → (b : Bool) → is_native m w h ≡ b → length bytes % row_bytes m d w h ≡ 0
  rows-case e true one = native-rows one
  rows-case e false many = same_rows s many bytes flips (read_pixels m d w h bytes ++ rest) held e

  pub only-rows : written ≡ bytes → length bytes % row_bytes m d w h ≡ 0
  only-rows e = rows-case e (is_native m w h) refl
