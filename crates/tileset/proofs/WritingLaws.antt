-- The cells and bytes of a set: how many they are, where they stand in the store, and the checks of writing.
-- Assumes nothing.
use mathlib.Core.Path.{◌≡◌, refl, sym, ap, ap₂, ◌∙◌, subst}
use mathlib.Core.Bool.{Bool, true, false, ◌&&◌, and-false}
use mathlib.Core.List.{List, [], ◌∷◌}
use Prim.Native.Nat.{ℕ, ◌+◌, ◌-◌, ◌*◌, ◌/◌, ◌%◌, ◌<◌, ◌≤◌}
use native.Mathlib.Nat.{mod-lt, div-le_self, mul-le-mul, mul-le-mul_right, add-mul, suc-mul, mul_comm, le_refl, le_trans, mul-pos, le-div_iff_mul-le, mod-one}
use native.Mathlib.Omega.{arith}
use lib.Dec.{T, ltb, eqb, eqb→eq}
use lib.ListN.{length, get_or, drop, take, replicate}
use lib.Seq.{take_all}
use borrow.Author.Tests.{eq-eqb, ne_eqb, eqb-true, eqb-false, lt-ltb, le-ltb, ltb-false}
use Rattle.words.specs.Answers.{◌when◌, first_applying}
use Rattle.words.specs.Inner.{eight}
use Rattle.words.specs.Loops.{each, some}
use Rattle.words.proofs.Answers.{all-passed, not-given}
use Rattle.words.proofs.Filling.{each_part}
use Rattle.words.proofs.Items.{each-eq, each-each, item-inside}
use Rattle.words.proofs.Loops.{length-each, both_left, both_right}
use Rattle.words.proofs.Order.{checks-after, checks-first, checks-rest}
use Rattle.mode.specs.Table.{one_of, pce-sprite}
use Rattle.tile.specs.Inner.{Packs, pixel_count, packed_in}
use Rattle.tile.specs.Tile.{is_native, packing_of, layout_of, packed, too_large}
use Rattle.tile.specs.declared.Packing.{Packing}
use Rattle.tile.proofs.Checks.{large-front}
use Rattle.tile.proofs.Native.{Native, fitting}
use Rattle.tile.proofs.Packings.{each_at}
use Rattle.tile.proofs.RoundTrip.{length-spread}
use Rattle.tileset.specs.Sets.{area, is_size, held_checks, held_says}
use Rattle.tileset.specs.Numbers.{row_cells, Grid}
use Rattle.tileset.specs.Writing.{padded_cells, cell_count, corner_of, block, tile_at, corner_at, cell_pixels, sprite_bytes, cell_bytes, cells_of, set_bytes, write_size, write_says}
use Rattle.tileset.specs.declared.Set.{Set}
use Rattle.tileset.proofs.Sizes.{IsSet, grid-set}
use Rattle.tileset.proofs.NumberLaws.{tile-8}
use Rattle.words.specs.InnerResults.{refusal_number}
use Rattle.words.specs.declared.refusal.Refusal.{Refusal}
use Rattle.words.proofs.Refusing.{refused_first}
use Rattle.tileset.proofs.Says.{held-set, held-room, room_most, room_whole}

-- ---- whole rows of cells

module _ (r h v : ℕ) (g : Grid r h v) where
  pub tiles-few : r / h ≤ 16
  tiles-few = le_trans (div-le_self r h) g.narrow

  pub padded-rows : (n : ℕ) → n ≤ 65535 → (n + (r / h - 1)) / (r / h) ≤ 65550
  padded-rows n few = le_trans (div-le_self (n + (r / h - 1)) (r / h)) (omega (arith, tiles-few))

  pub padded-down : (n : ℕ) → n ≤ 65535 → (n + (r / h - 1)) / (r / h) * v ≤ 524400
  padded-down n few = le_trans (mul-le-mul (padded-rows n few) g.low) (omega arith)

  pub padded-fits : (n : ℕ) → n ≤ 65535 → (n + (r / h - 1)) / (r / h) * v * r ≤ 8390400
  padded-fits n few = le_trans (mul-le-mul (padded-down n few) g.narrow) (omega arith)

module _ (m w h n : ℕ) where
  abbrev rows : ℕ
  rows = padded_cells (row_cells m) (w / 8) (h / 8) n

  pub wide-cells : (w ≡ 8 → ⊥) → rows ≡ cell_count m w h n
  unfolding cell_count
  wide-cells e = rw (ne_eqb w 8 e)

  pub tall-cells : (h ≡ 8 → ⊥) → rows ≡ cell_count m w h n
  unfolding cell_count
  tall-cells e = rw (ne_eqb h 8 e, and-false (eqb w 8))

  pub single-cells : w ≡ 8 → h ≡ 8 → n ≡ cell_count m w h n
  unfolding cell_count
  single-cells e f = rw (eq-eqb w 8 e, eq-eqb h 8 f)

-- ---- a cell's corner, and its block of eight by eight pixels

-- tile t of n pixels, and cell (y, x) of a tile w wide and h high
module _ (w h y x : ℕ) (ew : w ≡ w / 8 * 8) (eh : h ≡ h / 8 * 8) (hy : y < h / 8) (hx : x < w / 8) where
  pub block_inside : y * 8 * w + x * 8 + 7 * w + 8 ≤ w * h
  block_inside =
      let rows : (y * 8 + 8) * w ≤ h * w = mul-le-mul_right w (omega arith) in
      omega (arith, add-mul (y * 8) 8 w, mul_comm w h)

  pub block-in-store : (t n len : ℕ) → t < n → n * (w * h) ≤ len → t * (w * h) + y * 8 * w + x * 8 + 7 * w + 8 ≤ len
  block-in-store t n len lt fits = omega (arith, block_inside, mul-le-mul_right (w * h) lt, suc-mul t (w * h))

-- pixel i of a block
pub block_at : (w corner len i : ℕ) → corner + 7 * w + 8 ≤ len → i < 64 → corner + i / 8 * w + i % 8 < len
block_at w corner len i fits lt =
    let rows : i / 8 * w ≤ 7 * w = mul-le-mul_right w (omega arith) in
    omega arith

pub block-rows : (store : List ℕ) (corner w : ℕ) → each 8 (λ y. eight false store (corner + y * w)) ≡ block store corner w
block-rows store corner w =
    let pixel : ℕ → List ℕ = λ i. get_or store (corner + i / 8 * w + i % 8) 0 ∷ [] in
    each-eq 8 (λ y. eight false store (corner + y * w)) (λ y. each 8 (λ x. pixel (y * 8 + x)))
    (λ y hy. each-eq 8 (λ x. get_or store (corner + y * w + x) 0 ∷ []) (λ x. pixel (y * 8 + x))
    (λ x hx.
    let row : y ≡ (y * 8 + x) / 8 = omega arith in
    let column : x ≡ (y * 8 + x) % 8 = omega arith in
    ap₂ (λ (r c : ℕ). get_or store (corner + r * w + c) 0 ∷ []) row column))
    ∙ each-each 8 8 pixel

-- of a store with rows of eight: the pixels stand together
pub block-together : (store : List ℕ) (corner : ℕ) → corner + 64 ≤ length store → block store corner 8 ≡ take 64 (drop corner store)
block-together store corner inside =
    each-eq 64 (λ i. get_or store (corner + i / 8 * 8 + i % 8) 0 ∷ []) (λ i. get_or store (corner + i) 0 ∷ [])
    (λ i lt. ap (λ (k : ℕ). get_or store k 0 ∷ []) (omega arith))
    ∙ each_part store corner 64 inside

pub block-length : (store : List ℕ) (corner w : ℕ) → length (block store corner w) ≡ 64
block-length store corner w = length-each 64 1 (λ i. get_or store (corner + i / 8 * w + i % 8) 0 ∷ []) (λ i. refl)

-- ---- native cells and sprites

pub native-cell : {m d w h : ℕ} → IsSet m d w h → (m ≡ pce-sprite → ⊥) → Native m d 8 8
native-cell {m} s other = record { mode = s.mode; depth = s.depth; size = rw (ne_eqb m pce-sprite other) tt }

pub native-sprite : {m d w h : ℕ} → IsSet m d w h → m ≡ pce-sprite → Native m d w h
native-sprite {m} {d} {w} {h} s is =
    let same : T (is_size m w h) → T (is_native m w h) = subst (λ (k : ℕ). T (is_size k w h) → T (is_native k w h)) (sym is) (λ t. t) in
    record { mode = s.mode; depth = s.depth; size = same s.size }

-- tiles of another size are no sprites
pub in_cells : {m d w h : ℕ} → IsSet m d w h → is_native m w h ≡ false → m ≡ pce-sprite → ⊥
in_cells s many is = subst T many (native-sprite s is).size

-- a native size is a sprite's, or 8x8
pub native-single : {m d w h : ℕ} → Native m d w h → (m ≡ pce-sprite → ⊥) → (w ≡ 8) × (h ≡ 8)
native-single {m} {d} {w} {h} n other =
    let wide = one_of w (8 ∷ []) in
    let tall = one_of h (8 ∷ []) in
    let both : T (wide && tall) = rw (ne_eqb m pce-sprite other) at n.size in (
      eqb→eq w 8 (each_at (8 ∷ []) (λ k. eqb k 8) tt w (both_left wide tall both)),
      eqb→eq h 8 (each_at (8 ∷ []) (λ k. eqb k 8) tt h (both_right wide tall both)),
    )

pub packed-length : {m d w h : ℕ} → Native m d w h → (pixels : List ℕ) → length (packed m d w h pixels) ≡ w * h * d / 8
packed-length {m} {d} {w} {h} n pixels = length-spread (layout_of m d w h).bytes pixels ∙ (fitting n).bytes

-- packing one of several native tiles of a buffer
module _ {m d w h : ℕ} {p : Packing} (q : p ≡ packing_of m d w h) (n : Native m d w h) where
  pub packs-at : (pixels out : List ℕ) (from at : ℕ) → from + w * h ≤ length pixels → at + w * h * d / 8 ≤ length out → Packs p pixels from out at
  packs-at pixels out from at inside space =
      subst (λ (k : Packing). Packs k pixels from out at) (sym q)
      (record { sound = (fitting n).sound; inside = omega (arith, (fitting n).pixels); space = omega (arith, (fitting n).bytes) })

  pub packs_bytes : (pixels : List ℕ) (from : ℕ) → packed_in p (take (pixel_count p) (drop from pixels)) ≡ packed m d w h (take (w * h) (drop from pixels))
  packs_bytes pixels from =
      ap (λ (k : Packing). packed_in k (take (pixel_count k) (drop from pixels))) q
      ∙ ap (λ (k : ℕ). packed m d w h (take k (drop from pixels))) (fitting n).pixels

-- ---- a set's cells and bytes

module _ (z : Set) (len : ℕ) (held : held_says z len ≡ 0) where
  abbrev sound : IsSet z.mode z.depth z.width z.height
  sound = held-set z len held

  pub held-few : z.stored ≤ 65535
  held-few = le_trans (held-room z len held) (room_most z.limit (len / area z))

  pub held-inside : z.stored * area z ≤ len
  held-inside =
      (le-div_iff_mul-le {k = area z} (mul-pos sound.some sound.tall)).0 (le_trans (held-room z len held) (room_whole z.limit (len / area z)))

  pub cell-length : (z.mode ≡ pce-sprite → ⊥) → (store : List ℕ) (c : ℕ) → length (cell_bytes z store c) ≡ z.depth * 8
  cell-length other store c = packed-length (native-cell sound other) (cell_pixels z store c) ∙ omega arith

  pub sprite-length : z.mode ≡ pce-sprite → (store : List ℕ) (i : ℕ) → length (sprite_bytes z store i) ≡ area z * z.depth / 8
  sprite-length is store i =
      packed-length (native-sprite sound is) (take (area z) (drop (i * area z) store))

  -- the cell of a tile stands among the counted pixels, and so in the store
  module _ (other : z.mode ≡ pce-sprite → ⊥) (c : ℕ) (lt : tile_at z c < z.stored) where
    pub corner-counted : corner_at z c + 7 * z.width + 8 ≤ z.stored * area z
    unfolding corner_of
    corner-counted =
        let g = grid-set sound other in
        let r = row_cells z.mode in
        block-in-store z.width z.height (c / r % (z.height / 8)) (c % r % (z.width / 8)) sound.across sound.down
        (mod-lt (c / r) g.down) (mod-lt (c % r) g.across) (tile_at z c) z.stored (z.stored * area z) lt (le_refl (z.stored * area z))

    pub corner-inside : corner_at z c + 7 * z.width + 8 ≤ len
    corner-inside = le_trans corner-counted held-inside

-- the room for one item more
pub item-space : (n k space i : ℕ) → n * k ≤ space → i < n → i * k + k ≤ space
item-space n k space i fits lt = omega (arith, item-inside k n i lt)

pub cell-blank : (z : Set) (store : List ℕ) (c : ℕ) → z.stored ≤ tile_at z c → replicate 64 0 ≡ cell_pixels z store c
unfolding cell_pixels
cell-blank z store c h = rw (le-ltb (tile_at z c) z.stored h)

pub cell-there : (z : Set) (store : List ℕ) (c : ℕ) → tile_at z c < z.stored → block store (corner_at z c) z.width ≡ cell_pixels z store c
unfolding cell_pixels
cell-there z store c h = rw (lt-ltb (tile_at z c) z.stored h)

-- a buffer with a cell's pixels
pub cell-packed : {m d : ℕ} {p : Packing} (q : p ≡ packing_of m d 8 8) (n : Native m d 8 8) (buffer pixels : List ℕ) → length buffer ≡ 64 → buffer ≡ pixels
    → packed_in p (take (pixel_count p) (drop 0 buffer)) ≡ packed m d 8 8 pixels
cell-packed {m} {d} q n buffer pixels len e =
    packs_bytes q n buffer 0 ∙ ap (packed m d 8 8) (take_all 64 buffer (omega arith) ∙ e)

-- ---- the checks of writing

module _ (z : Set) (store : List ℕ) (space : ℕ) where
  abbrev large : Bool
  large = some (z.stored * area z) (too_large z.depth store)

  abbrev first : List ℕ
  first = held_checks z (length store)

  abbrev rest : List ℕ
  rest = 8 when large ∷ 11 when ltb space (write_size z) ∷ []

  pub write_refused : (e : Refusal) → refusal_number e ≡ held_says z (length store) → refusal_number e ≡ write_says z store space
  unfolding write_says held_says
  write_refused e given = refused_first first rest e given

  module _ (held : held_says z (length store) ≡ 0) where
    -- a test of the front of the store is one of the counted pixels
    pub counted : (b : Bool) → b ≡ some (length (take (z.stored * area z) store)) (too_large z.depth (take (z.stored * area z) store)) → large ≡ b
    counted b is = sym (is ∙ large-front (z.stored * area z) z.depth store (held-inside z (length store) held))

    after : write_says z store space ≡ first_applying rest
    unfolding write_says held_says
    after = checks-after first rest held

    pub write-8 : large ≡ true → 8 ≡ write_says z store space
    write-8 e = sym (after ∙ rw e)

    pub write-11 : large ≡ false → space < write_size z → 11 ≡ write_says z store space
    write-11 e lt = sym (after ∙ rw (e, lt-ltb space (write_size z) lt))

    pub write-0 : large ≡ false → write_size z ≤ space → 0 ≡ write_says z store space
    write-0 e le = sym (after ∙ rw (e, le-ltb space (write_size z) le))

  module _ (done : write_says z store space ≡ 0) where
    pub write-held : held_says z (length store) ≡ 0
    unfolding write_says held_says
    write-held = checks-first first rest done

    passed : (k : ℕ) → get_or rest k 0 ≡ 0
    unfolding write_says
    passed = all-passed rest (checks-rest first rest done)

    pub write-small : large ≡ false
    write-small = not-given 7 large (passed 0)

    pub write-space : write_size z ≤ space
    write-space = ltb-false space (write_size z) (not-given 10 (ltb space (write_size z)) (passed 1))

-- the bytes of a set, and how many they are
module _ (z : Set) (store : List ℕ) (held : held_says z (length store) ≡ 0) where
  abbrev Bytes : List ℕ → Type 0
  Bytes l = (l ≡ set_bytes z store) × (write_size z ≡ length (set_bytes z store))

  pub sprite-set : z.mode ≡ pce-sprite → Bytes (each z.stored (sprite_bytes z store))
  unfolding set_bytes write_size
  sprite-set is =
      let long = length-each z.stored (area z * z.depth / 8) (sprite_bytes z store) (sprite-length z (length store) held is store) in
      rw (eq-eqb z.mode pce-sprite is) (refl, sym long)

  pub cell_set : (z.mode ≡ pce-sprite → ⊥) → Bytes (each (cells_of z) (cell_bytes z store))
  unfolding set_bytes write_size
  cell_set other =
      let long = length-each (cells_of z) (z.depth * 8) (cell_bytes z store) (cell-length z (length store) held other store) in
      rw (ne_eqb z.mode pce-sprite other) (refl, sym long)

  size-case : (b : Bool) → eqb z.mode pce-sprite ≡ b → write_size z ≡ length (set_bytes z store)
  size-case true e = (sprite-set (eqb-true z.mode pce-sprite e)).1
  size-case false e = (cell_set (eqb-false z.mode pce-sprite e)).1

  -- "output buffer shorter than the bytes to be written": 11 is by their number
  pub written-size : length (set_bytes z store) ≡ write_size z
  written-size = sym (size-case (eqb z.mode pce-sprite) refl)

  pub cells-space : (z.mode ≡ pce-sprite → ⊥) → write_size z ≡ cells_of z * (z.depth * 8)
  unfolding write_size
  cells-space other = rw (ne_eqb z.mode pce-sprite other)

  -- ---- tiles of a native size, sprites or 8x8: their bytes stand one after the other
  module _ (native : T (is_native z.mode z.width z.height)) where
    pub native-tile : Native z.mode z.depth z.width z.height
    native-tile = let s = held-set z (length store) held in record { mode = s.mode; depth = s.depth; size = native }

    pub tile-length : (i : ℕ) → length (sprite_bytes z store i) ≡ area z * z.depth / 8
    tile-length i = packed-length native-tile (take (area z) (drop (i * area z) store))

    -- at 8x8 a cell is a tile
    module _ (other : z.mode ≡ pce-sprite → ⊥) where
      single : (z.width ≡ 8) × (z.height ≡ 8)
      single = native-single native-tile other

      tile-is : (i : ℕ) → tile_at z i ≡ i
      tile-is i = rw (single.0, single.1) (tile-8 z.mode i)

      corner-is : (i : ℕ) → corner_at z i ≡ i * area z
      unfolding corner_of
      corner-is i = rw (single.0, single.1) (rw (tile-8 z.mode i, mod-one (i / row_cells z.mode), mod-one (i % row_cells z.mode)) (omega arith))

      area-is : area z ≡ 64
      area-is = rw (single.0, single.1)

      pixels-are : (i : ℕ) → i < z.stored → cell_pixels z store i ≡ take (area z) (drop (i * area z) store)
      pixels-are i lt =
          let inside : i * area z + area z ≤ length store = omega (arith, item-inside (area z) z.stored i lt, held-inside z (length store) held) in
          let whole : i * area z + 64 ≤ length store = omega (arith, area-is) in
          sym (cell-there z store i (rw (tile-is i) lt))
          ∙ ap₂ (λ (k w : ℕ). block store k w) (corner-is i) single.0
          ∙ block-together store (i * area z) whole
          ∙ ap (λ (k : ℕ). take k (drop (i * area z) store)) (sym area-is)

      bytes-are : (i : ℕ) → i < z.stored → sprite_bytes z store i ≡ cell_bytes z store i
      bytes-are i lt =
          ap₂ (λ (w h : ℕ). packed z.mode z.depth w h (take (area z) (drop (i * area z) store))) single.0 single.1
          ∙ ap (packed z.mode z.depth 8 8) (sym (pixels-are i lt))

      cells_are : each z.stored (sprite_bytes z store) ≡ set_bytes z store
      cells_are =
          each-eq z.stored (sprite_bytes z store) (cell_bytes z store) bytes-are
          ∙ ap (λ (n : ℕ). each n (cell_bytes z store)) (single-cells z.mode z.width z.height z.stored single.0 single.1)
          ∙ (cell_set other).0

    tiles-case : (b : Bool) → eqb z.mode pce-sprite ≡ b → each z.stored (sprite_bytes z store) ≡ set_bytes z store
    tiles-case true e = (sprite-set (eqb-true z.mode pce-sprite e)).0
    tiles-case false e = cells_are (eqb-false z.mode pce-sprite e)

    pub tiles-set : each z.stored (sprite_bytes z store) ≡ set_bytes z store
    tiles-set = tiles-case (eqb z.mode pce-sprite) refl

    pub tiles-space : z.stored * (area z * z.depth / 8) ≡ write_size z
    tiles-space = sym (length-each z.stored (area z * z.depth / 8) (sprite_bytes z store) tile-length) ∙ ap length tiles-set ∙ written-size
