-- Tiles of a native size, sprites or 8x8, are read one after the other, each as it is unpacked.
-- Assumes nothing.
use mathlib.Core.Path.{◌≡◌, refl, sym, ap, ap₂, ◌∙◌}
use mathlib.Core.Bool.{Bool, true, false}
use mathlib.Core.List.{List, [], ◌∷◌}
use Prim.Native.Nat.{ℕ, ◌+◌, ◌*◌, ◌/◌, ◌%◌, ◌<◌, ◌≤◌}
use native.Mathlib.Nat.{mul_comm, zero-mul, div-add-mod', mul-div_cancel, mul-mod_left}
use native.Mathlib.Omega.{arith}
use lib.Dec.{T, eqb}
use lib.ListN.{length, get_or, take, drop, length-drop}
use lib.Seq.{get_or-take, get_or-drop, length-take-le}
use borrow.Author.Tests.{eqb-true, eqb-false}
use Rattle.words.specs.Loops.{each}
use Rattle.words.proofs.Filling.{each_of}
use Rattle.words.proofs.Items.{item-inside, each-eq, whole_parts}
use Rattle.mode.specs.Table.{pce-sprite}
use Rattle.tile.specs.Tile.{is_native, unpacked}
use Rattle.tile.proofs.Native.{Native}
use Rattle.tileset.specs.Sets.{set_says}
use Rattle.tileset.specs.Numbers.{row_cells, first_cell}
use Rattle.tileset.specs.Reading.{last_cell, whole_tiles, tile_size, unit_bytes, read_count, read_says, sprite_in, cell_in, pixel_in, tile_in}
use Rattle.tileset.proofs.Sizes.{IsSet, set-of}
use Rattle.tileset.proofs.NumberLaws.{single-starts, first-8}
use Rattle.tileset.proofs.WritingLaws.{native-single}
use Rattle.tileset.proofs.ReadingLaws.{whole-only, sprite-unit, cell-unit, sprite-count, cell-count, bytes-some, read-0, unpacked-length, cell-size, cell-pixel}

-- rows of pixels, one after the other
pub rows-of : (w h : ℕ) (l : List ℕ) (f : ℕ → ℕ → ℕ) → length l ≡ w * h → ((y x : ℕ) → y < h → x < w → f y x ≡ get_or l (y * w + x) 0)
    → each h (λ y. each w (λ x. f y x ∷ [])) ≡ l
rows-of w h l f len is =
    each-eq h (λ y. each w (λ x. f y x ∷ [])) (λ y. take w (drop (y * w) l))
    (λ y hy.
    let row = take w (drop (y * w) l) in
    let inside : y * w + w ≤ h * w = item-inside w h y hy in
    let long : length row ≡ w = length-take-le w (drop (y * w) l) (omega (arith, length-drop (y * w) l, mul_comm w h)) in
    each-eq w (λ x. f y x ∷ []) (λ x. get_or row x 0 ∷ [])
    (λ x hx. ap (λ (k : ℕ). k ∷ []) (is y x hy hx ∙ sym (get_or-take w (drop (y * w) l) x 0 hx ∙ get_or-drop (y * w) l x 0)))
    ∙ ap (λ (n : ℕ). each n (λ x. get_or row x 0 ∷ [])) (sym long) ∙ each_of row)
    ∙ whole_parts w h l (len ∙ mul_comm w h)

-- at 8x8 every cell is a tile
pub single-tiles : (r n : ℕ) → whole_tiles r 1 1 n ≡ n
single-tiles r n =
    let last : (k : ℕ) → last_cell r 1 1 k ≡ k = λ k. omega (arith, single-starts r k, zero-mul r) in
    whole-only r 1 1 n (λ k. omega (arith, last k)) n (λ k lt. omega (arith, last k)) (omega (arith, last n))

module _ (m d : ℕ) (bytes : List ℕ) (n y x : ℕ) (hy : y < 8) (hx : x < 8) where
  cell-is : first_cell m 8 8 n + y / 8 * row_cells m + x / 8 ≡ n
  cell-is =
      let top : y / 8 ≡ 0 = omega arith in
      omega (arith, first-8 m n, ap (λ (k : ℕ). k * row_cells m) top, zero-mul (row_cells m))

  place_is : y % 8 * 8 + x % 8 ≡ y * 8 + x
  place_is = omega arith

  whole_is : cell_in m d bytes n ≡ sprite_in m d 8 8 bytes n
  whole_is = ap (λ (k : ℕ). unpacked m d 8 8 (take k (drop (n * k) bytes))) (sym (cell-size d))

  single-pixel : get_or (cell_in m d bytes (first_cell m 8 8 n + y / 8 * row_cells m + x / 8)) (y % 8 * 8 + x % 8) 0 ≡ get_or (sprite_in m d 8 8 bytes n) (y * 8 + x) 0
  single-pixel = ap₂ (λ (c i : ℕ). get_or (cell_in m d bytes c) i 0) cell-is place_is ∙ ap (λ (l : List ℕ). get_or l (y * 8 + x) 0) whole_is

module _ {m d w h : ℕ} (native : Native m d w h) where
  unit-case : (b : Bool) → eqb m pce-sprite ≡ b → unit_bytes m d w h ≡ tile_size d w h
  unit-case true e = sym (sprite-unit m d w h 0 (eqb-true m pce-sprite e))
  unit-case false e =
      let other = eqb-false m pce-sprite e in
      let single = native-single native other in
      sym (cell-unit m d w h 0 other) ∙ rw (single.0, single.1) (sym (cell-size d))

  pub native-unit : unit_bytes m d w h ≡ tile_size d w h
  native-unit = unit-case (eqb m pce-sprite) refl

  count-case : (len : ℕ) (b : Bool) → eqb m pce-sprite ≡ b → read_count m d w h len ≡ len / tile_size d w h
  count-case len true e = sym (sprite-count m d w h len (eqb-true m pce-sprite e))
  count-case len false e =
      let other = eqb-false m pce-sprite e in
      let single = native-single native other in
      sym (cell-count m d w h len other)
      ∙ rw (single.0, single.1) (single-tiles (row_cells m) (len / (d * 8)) ∙ ap (λ (k : ℕ). len / k) (sym (cell-size d)))

  pub native-count : (len : ℕ) → read_count m d w h len ≡ len / tile_size d w h
  native-count len = count-case len (eqb m pce-sprite) refl

  -- each of them is there
  pub straight-inside : (len n : ℕ) → n < read_count m d w h len → n * tile_size d w h + tile_size d w h ≤ len
  straight-inside len n lt =
      let size = tile_size d w h in
      omega (arith, item-inside size (len / size) n (rw (← native-count len) lt), div-add-mod' len size)

  module _ (bytes : List ℕ) (n : ℕ) where
    pixel-case : (y x : ℕ) → y < h → x < w → (b : Bool) → eqb m pce-sprite ≡ b → pixel_in m d w h bytes n y x ≡ get_or (sprite_in m d w h bytes n) (y * w + x) 0
    unfolding pixel_in
    pixel-case y x hy hx true e = rw e
    pixel-case y x hy hx false e =
        let other = eqb-false m pce-sprite e in
        let single = native-single native other in
        sym (cell-pixel m d w h bytes n y x other)
        ∙ rw (single.0, single.1) (single-pixel m d bytes n y x (omega (arith, single.1)) (omega (arith, single.0)))

    pub tile-straight : tile_in m d w h bytes n ≡ sprite_in m d w h bytes n
    tile-straight =
        rows-of w h (sprite_in m d w h bytes n) (pixel_in m d w h bytes n) (unpacked-length native (take (tile_size d w h) (drop (n * tile_size d w h) bytes)))
        (λ y x hy hx. pixel-case y x hy hx (eqb m pce-sprite) refl)

-- every whole number of them is read, as so many, up to the most that a set has
module _ (m d w h : ℕ) (says : set_says m d w h ≡ 0) (size : T (is_native m w h)) (n : ℕ) where
  sound : IsSet m d w h
  sound = set-of m d w h says

  tiled : Native m d w h
  tiled = record { mode = sound.mode; depth = sound.depth; size = size }

  pub native-all : read_count m d w h (n * tile_size d w h) ≡ n
  native-all = native-count tiled (n * tile_size d w h) ∙ mul-div_cancel n {n = tile_size d w h} (bytes-some sound)

  pub native-read : (space : ℕ) → n * (w * h) ≤ space → n ≤ 65535 → read_says m d w h (n * tile_size d w h) space ≡ 0
  native-read space fits few =
      let len = n * tile_size d w h in
      let whole : len % unit_bytes m d w h ≡ 0 = ap (λ (k : ℕ). len % k) (native-unit tiled) ∙ mul-mod_left n (tile_size d w h) in
      sym (read-0 m d w h len space says whole (rw native-all fits) (rw native-all few))
