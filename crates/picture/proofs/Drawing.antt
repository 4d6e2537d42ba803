-- A picture is drawn a row of tiles at a time, in the order of its pixels.
-- Assumes nothing.
use mathlib.Core.Path.{◌≡◌, refl, sym, ap, ◌∙◌, subst}
use mathlib.Core.List.{List, [], ◌∷◌, ◌++◌, append-nil}
use Prim.Native.Nat.{ℕ, ◌+◌, ◌*◌, ◌/◌, ◌%◌, ◌<◌, ◌≤◌}
use native.Mathlib.Nat.{mul_comm, mul_assoc, mul-le-mul_right}
use native.Mathlib.Omega.{arith}
use lib.ListN.{length, get_or, take, drop, drop_of_length-le, get_or-append}
use lib.Seq.{sets}
use Rattle.words.specs.Loops.{each}
use Rattle.words.proofs.Items.{each-eq, item-get_or, item-inside, each-each, length-ones}
use Rattle.words.proofs.Loops.{length-each, sets-front}
use Rattle.mode.specs.Table.{row}
use Rattle.tile.specs.Inner.{Unpacks, byte_count, unpacked_in}
use Rattle.tile.specs.Tile.{packing_of, layout_of, unpacked}
use Rattle.tile.specs.declared.Packing.{Packing}
use Rattle.tile.proofs.Native.{Native, fitting}
use Rattle.tile.proofs.RoundTrip.{length-spread}
use Rattle.flip.specs.Flips.{flip, flipped}
use Rattle.flip.proofs.Group.{length-flipped, place-row, place-column}
use Rattle.mapentry.specs.Entry.{entry_of}
use Rattle.mapentry.specs.declared.Mapentry.{Mapentry}
use Rattle.picture.specs.Entries.{tile_named}
use Rattle.picture.specs.Cells.{tile_over, place_over}
use Rattle.picture.specs.Redrawing.{entry_at, drawn_tile, drawn}
use Rattle.picture.specs.Inner.{strip_of, pixel_line, DrawsStrip, Draws}

-- ---- one tile

module _ {m d : ℕ} {p : Packing} (q : p ≡ packing_of m d 8 8) (n : Native m d 8 8) where
  pub unpacks-at : (bytes out : List ℕ) (from : ℕ) → from + d * 8 ≤ length bytes → length out ≡ 64 → Unpacks p bytes from out 0
  unpacks-at bytes out from inside space =
      subst (λ (k : Packing). Unpacks k bytes from out 0) (sym q)
      (record { sound = (fitting n).sound; inside = omega (arith, (fitting n).bytes); space = omega (arith, (fitting n).pixels) })

  tile-is : (bytes : List ℕ) (from : ℕ) → unpacked_in p (take (byte_count p) (drop from bytes)) ≡ unpacked m d 8 8 (take (d * 8) (drop from bytes))
  tile-is bytes from =
      let size : byte_count (packing_of m d 8 8) ≡ d * 8 = omega (arith, (fitting n).bytes) in
      ap (λ (k : Packing). unpacked_in k (take (byte_count k) (drop from bytes))) q
      ∙ ap (λ (k : ℕ). unpacked m d 8 8 (take k (drop from bytes))) size

  tile-length : (bytes : List ℕ) → length (unpacked m d 8 8 bytes) ≡ 64
  tile-length bytes = length-spread (layout_of m d 8 8).pixels bytes ∙ (fitting n).pixels

  -- the pixels in a buffer of their own
  pub unpacked-whole : (bytes buffer now : List ℕ) (from : ℕ) → length buffer ≡ 64 → now ≡ sets buffer 0 (unpacked_in p (take (byte_count p) (drop from bytes)))
      → now ≡ unpacked m d 8 8 (take (d * 8) (drop from bytes))
  unpacked-whole bytes buffer now from whole e =
      let t = unpacked m d 8 8 (take (d * 8) (drop from bytes)) in
      let len : length t ≡ 64 = tile-length (take (d * 8) (drop from bytes)) in
      e ∙ ap (sets buffer 0) (tile-is bytes from)
      ∙ sets-front buffer t (omega arith)
      ∙ ap (λ (l : List ℕ). t ++ l) (drop_of_length-le buffer {i = length t} (omega arith))
      ∙ append-nil t

pub drawn-length : (m d : ℕ) (tiles : List ℕ) (e : Mapentry) → length (drawn_tile m d tiles e) ≡ 64
unfolding drawn_tile
drawn-length m d tiles e = length-flipped (flip e.flip_h e.flip_v) 8 8 (unpacked m d 8 8 (take (d * 8) (drop (tile_named m 8 8 e * (d * 8)) tiles)))

pub drawn-is : (m d : ℕ) (tiles : List ℕ) (e : Mapentry) (tile out : List ℕ) (at : ℕ) {now : List ℕ} → now ≡ sets out at (flipped (flip e.flip_h e.flip_v) 8 8 tile)
    → tile ≡ unpacked m d 8 8 (take (d * 8) (drop (tile_named m 8 8 e * (d * 8)) tiles)) → now ≡ sets out at (drawn_tile m d tiles e)
unfolding drawn_tile
drawn-is m d tiles e tile out at p q = p ∙ ap (λ (l : List ℕ). sets out at (flipped (flip e.flip_h e.flip_v) 8 8 l)) q

-- ---- an entry of a map

pub entry_read : {e : Mapentry} (m i size : ℕ) (map : List ℕ) → e ≡ entry_of m (take (row m).entry (drop (i * size) map)) → size ≡ (row m).entry → e ≡ entry_at m map i
unfolding entry_at
entry_read m i size map e q = e ∙ ap (λ (n : ℕ). entry_of m (take (row m).entry (drop (i * n) map))) q

-- ---- lines

pub line-length : (strip : List ℕ) (columns y : ℕ) → length (pixel_line strip columns y) ≡ columns * 8
line-length strip columns y =
    length-each columns 8 (λ x. each 8 (λ j. get_or strip (x * 64 + y * 8 + j) 0 ∷ [])) (λ x. length-ones 8 (λ j. get_or strip (x * 64 + y * 8 + j) 0))

module _ (m d columns : ℕ) (tiles map : List ℕ) where
  -- pixel o of the picture
  abbrev pub pixel : ℕ → List ℕ
  pixel o = get_or (drawn_tile m d tiles (entry_at m map (tile_over 8 8 columns o))) (place_over 8 8 columns o) 0 ∷ []

  -- the pixels of row y of tiles
  abbrev pub row_drawn : ℕ → List ℕ
  row_drawn y = each 8 (λ l. each columns (λ x. each 8 (λ j. pixel (((y * 8 + l) * columns + x) * 8 + j))))

  pub row-length : (y : ℕ) → length (row_drawn y) ≡ 8 * (columns * 8)
  row-length y =
      length-each 8 (columns * 8) (λ l. each columns (λ x. each 8 (λ j. pixel (((y * 8 + l) * columns + x) * 8 + j))))
      (λ l. length-each columns 8 (λ x. each 8 (λ j. pixel (((y * 8 + l) * columns + x) * 8 + j))) (λ x. length-each 8 1 (λ j. pixel (((y * 8 + l) * columns + x) * 8 + j)) (λ j. refl)))

  module _ (y l x j : ℕ) (hl : l < 8) (hx : x < columns) (hj : j < 8) where
    abbrev o : ℕ
    o = ((y * 8 + l) * columns + x) * 8 + j

    o_is : o ≡ (y * 8 + l) * (columns * 8) + (x * 8 + j)
    o_is = omega (arith, mul_assoc (y * 8 + l) columns 8)

    o-row : o / (columns * 8) ≡ y * 8 + l
    o-row = ap (λ (n : ℕ). n / (columns * 8)) o_is ∙ place-row (columns * 8) (y * 8 + l) (x * 8 + j) (omega arith)

    o-column : o % (columns * 8) ≡ x * 8 + j
    o-column = ap (λ (n : ℕ). n % (columns * 8)) o_is ∙ place-column (columns * 8) (y * 8 + l) (x * 8 + j) (omega arith)

    tile-over : tile_over 8 8 columns o ≡ y * columns + x
    unfolding tile_over
    tile-over =
        let a : (y * 8 + l) / 8 ≡ y = omega arith in
        let b : (x * 8 + j) / 8 ≡ x = omega arith in
        ap (λ (n : ℕ). n / 8 * columns + o % (columns * 8) / 8) o-row
        ∙ ap (λ (n : ℕ). (y * 8 + l) / 8 * columns + n / 8) o-column
        ∙ ap (λ (n : ℕ). n * columns + (x * 8 + j) / 8) a
        ∙ ap (λ (n : ℕ). y * columns + n) b

    place-over : place_over 8 8 columns o ≡ l * 8 + j
    unfolding place_over
    place-over =
        let a : (y * 8 + l) % 8 ≡ l = omega arith in
        let b : (x * 8 + j) % 8 ≡ j = omega arith in
        ap (λ (n : ℕ). n % 8 * 8 + o % (columns * 8) % 8) o-row
        ∙ ap (λ (n : ℕ). (y * 8 + l) % 8 * 8 + n % 8) o-column
        ∙ ap (λ (n : ℕ). n * 8 + (x * 8 + j) % 8) a
        ∙ ap (λ (n : ℕ). l * 8 + n) b

    pixel-is : pixel o ≡ get_or (drawn_tile m d tiles (entry_at m map (y * columns + x))) (l * 8 + j) 0 ∷ []
    pixel-is =
        ap (λ (n : ℕ). get_or (drawn_tile m d tiles (entry_at m map n)) (place_over 8 8 columns o) 0 ∷ []) tile-over
        ∙ ap (λ (n : ℕ). get_or (drawn_tile m d tiles (entry_at m map (y * columns + x))) n 0 ∷ []) place-over

  -- ---- a row of tiles

  module _ (buffer strip : List ℕ) (y : ℕ) (space : columns * 64 ≤ length buffer) (is : strip ≡ sets buffer 0 (strip_of m d columns (y * columns) tiles map)) where
    long : length (strip_of m d columns (y * columns) tiles map) ≡ columns * 64
    long = length-each columns 64 (λ x. drawn_tile m d tiles (entry_at m map (y * columns + x))) (λ x. drawn-length m d tiles (entry_at m map (y * columns + x)))

    strip-at : (x p : ℕ) → x < columns → p < 64 → get_or strip (x * 64 + p) 0 ≡ get_or (drawn_tile m d tiles (entry_at m map (y * columns + x))) p 0
    strip-at x p hx hp =
        let s = strip_of m d columns (y * columns) tiles map in
        ap (λ (l : List ℕ). get_or l (x * 64 + p) 0) (is ∙ sets-front buffer s (omega (arith, long)))
        ∙ get_or-append s (drop (length s) buffer) 0 (x * 64 + p) (omega (arith, long, item-inside 64 columns x hx))
        ∙ item-get_or 64 (λ x. drawn_tile m d tiles (entry_at m map (y * columns + x))) (λ x. drawn-length m d tiles (entry_at m map (y * columns + x))) columns x hx p hp

    pub lines_are : each 8 (pixel_line strip columns) ≡ row_drawn y
    lines_are =
        each-eq 8 (pixel_line strip columns) (λ l. each columns (λ x. each 8 (λ j. pixel (((y * 8 + l) * columns + x) * 8 + j))))
        (λ l hl. each-eq columns (λ x. each 8 (λ j. get_or strip (x * 64 + l * 8 + j) 0 ∷ [])) (λ x. each 8 (λ j. pixel (((y * 8 + l) * columns + x) * 8 + j)))
        (λ x hx. each-eq 8 (λ j. get_or strip (x * 64 + l * 8 + j) 0 ∷ []) (λ j. pixel (((y * 8 + l) * columns + x) * 8 + j))
        (λ j hj.
        let e : x * 64 + l * 8 + j ≡ x * 64 + (l * 8 + j) = omega arith in
        ap (λ (n : ℕ). get_or strip n 0 ∷ []) e
        ∙ ap (λ (v : ℕ). v ∷ []) (strip-at x (l * 8 + j) hx (omega arith))
        ∙ sym (pixel-is y l x j hl hx hj))))

  -- ---- the picture

  pub rows_are : (rows : ℕ) → each rows row_drawn ≡ drawn m d columns rows tiles map
  unfolding drawn
  rows_are rows =
      let eight : ℕ → List ℕ = λ t. each 8 (λ j. pixel (t * 8 + j)) in
      let line : ℕ → List ℕ = λ l. each columns (λ x. each 8 (λ j. pixel ((l * columns + x) * 8 + j))) in
      let count : rows * 8 * columns * 8 ≡ 64 * (columns * rows) = omega (arith, mul_comm columns rows) in
      each-each rows 8 line ∙ each-each (rows * 8) columns eight ∙ each-each (rows * 8 * columns) 8 pixel ∙ ap (λ (n : ℕ). each n pixel) count

  pub picture-length : (rows : ℕ) → length (drawn m d columns rows tiles map) ≡ 64 * (columns * rows)
  unfolding drawn
  picture-length rows = length-ones (64 * (columns * rows)) (λ o. get_or (drawn_tile m d tiles (entry_at m map (tile_over 8 8 columns o))) (place_over 8 8 columns o) 0)

-- ---- a row of tiles of a picture, and its place in the pixels

pub strip-asks : {m d columns rows : ℕ} {tiles map out strip : List ℕ} (z : Draws m d columns rows tiles map out) (y : ℕ) → y < rows → columns * 64 ≤ length strip → columns * rows ≤ 4096
    → DrawsStrip m d columns (y * columns) tiles map strip
strip-asks {m} {d} {columns} {rows} z y lt space few =
    let inside : y * columns + columns ≤ columns * rows = omega (arith, item-inside columns rows y lt, mul_comm columns rows) in
    record {
      mode = z.mode;
      mapped = z.mapped;
      depth = z.depth;
      few = omega arith;
      inside = omega (arith, mul-le-mul_right (row m).entry inside, z.whole);
      named = λ x hx. z.named (y * columns + x) (omega arith);
      space = space;
    }

pub row-space : (columns rows y : ℕ) → y < rows → y * (8 * (columns * 8)) + 8 * (columns * 8) ≤ 64 * (columns * rows)
row-space columns rows y lt = omega (arith, item-inside (8 * (columns * 8)) rows y lt, mul_comm columns rows)
