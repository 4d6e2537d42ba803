-- Reading: how many tiles come before the first incomplete one, its checks, and where each pixel of a tile stands.
-- Assumes nothing.
use mathlib.Core.Path.{◌≡◌, refl, sym, ap, ap₂, ◌∙◌, subst}
use mathlib.Core.Bool.{Bool, true, false, not, cond}
use mathlib.Core.List.{List, [], ◌∷◌, ◌++◌}
use mathlib.Core.Logic.{⊎_elim}
use Rattle.std.specs.Prelude.{Result}
use Rattle.std.specs.Result.{IsErrAnd}
use Prim.Native.Nat.{ℕ, zero, suc, ◌+◌, ◌-◌, ◌*◌, ◌/◌, ◌%◌, ◌^◌, ◌<◌, ◌≤◌}
use native.Mathlib.Nat.{mod-lt, div-le_self, mul-le-mul, mul-le-mul_left, mul-le-mul_right, mul-pos, mul_assoc, mul_left_comm, mul_comm, add-mul, mul-one, one-mul, add-zero, zero-add, div-add-mod', zero-div, div-lt_iff_lt-mul, le-div_iff_mul-le, le_trans, lt_of_mul-lt-mul_right, eq-or-lt_of_le}
use native.Mathlib.Omega.{arith}
use lib.Dec.{ltb, eqb}
use lib.ListN.{length, get_or, drop, take, length-append, length-drop, get_or-append}
use borrow.Author.Tests.{eq-eqb, ne_eqb, eqb-true, lt-ltb, le-ltb, ltb-true, ltb-false, not-false}
use Rattle.words.specs.Answers.{◌when◌, first_applying, overwrite}
use Rattle.words.specs.Inner.{eight}
use Rattle.words.specs.Loops.{each}
use Rattle.words.proofs.Answers.{all-passed, not-given, when-done, when-refused}
use Rattle.words.proofs.Items.{item-get_or, item-inside, item-end, each-eq, each-each}
use Rattle.words.proofs.Loops.{length-each}
use Rattle.words.proofs.Order.{checks-after, checks-first, checks-rest}
use Rattle.mode.specs.Table.{pce-sprite}
use Rattle.tile.specs.Inner.{Unpacks, byte_count, unpacked_in}
use Rattle.tile.specs.Tile.{is_native, packing_of, layout_of, unpacked}
use Rattle.tile.specs.declared.Packing.{Packing}
use Rattle.tile.proofs.Native.{Native, fitting}
use Rattle.tile.proofs.RoundTrip.{length-spread, spread-lt}
use Rattle.flip.proofs.Group.{place-lt, place-row, place-column}
use Rattle.tileset.specs.Sets.{set_checks, set_says, set_room, held_says, no_set, room_under}
use Rattle.tileset.specs.Numbers.{row_cells, starts_at, first_cell, Grid}
use Rattle.tileset.specs.Reading.{last_cell, whole_from, whole_tiles, tile_size, unit_bytes, read_count, read_says, read_set, cell_in, pixel_in, row_in, tile_in, read_pixels, Reads}
use Rattle.tileset.specs.Inner.{IsShape, cells_in, place_in, row_of}
use Rattle.tileset.specs.InnerResults.{set_answer_by}
use Rattle.tileset.specs.declared.Set.{Set}
use Rattle.tileset.specs.declared.shape.Shape.{Shape}
use Rattle.tileset.specs.declared.SetAnswer.{SetAnswer}
use Rattle.tileset.proofs.Sizes.{IsSet, set-of, bits-some}
use Rattle.words.specs.InnerResults.{refusal_number}
use Rattle.words.specs.declared.refusal.Refusal.{Refusal}
use Rattle.words.proofs.Refusing.{refusal-not-done, refused_first, passed_on}
use Rattle.tileset.proofs.Says.{held-0, refused-set, done-set}
use Rattle.tileset.proofs.NumberLaws.{row-some, start-row, start-across}

-- ---- how many tiles are whole

module _ (r h v c : ℕ) where
  complete-case : (n k w : ℕ) (b : Bool) → ltb (last_cell r h v n) c ≡ b → (suc n ≤ k → k < suc n + w → last_cell r h v k < c) → n ≤ k → k < n + cond b (suc w) 0
      → last_cell r h v k < c
  complete-case n k w true e more le lt = ⊎_elim (λ q. rw (← q) (ltb-true (last_cell r h v n) c e)) (λ l. more l (omega arith)) (eq-or-lt_of_le le)
  complete-case n k w false e more le lt = omega arith

  complete-from : (n fuel k : ℕ) → n ≤ k → k < n + whole_from r h v c n fuel → last_cell r h v k < c
  complete-from n zero k le lt = omega arith
  complete-from n (suc fuel) k le lt =
      complete-case n k (whole_from r h v c (suc n) fuel) (ltb (last_cell r h v n) c) refl (complete-from (suc n) fuel k) le lt

  -- every tile that is counted is complete
  pub tile-complete : (n : ℕ) → n < whole_tiles r h v c → last_cell r h v n < c
  unfolding whole_tiles
  tile-complete n lt = complete-from 0 c n (omega arith) (omega arith)

  -- where each tile has a cell of its own
  module _ (own : (n : ℕ) → n ≤ last_cell r h v n) where
    stops-case : (n w : ℕ) (b : Bool) → ltb (last_cell r h v n) c ≡ b → c ≤ last_cell r h v (suc n + w) → c ≤ last_cell r h v (n + cond b (suc w) 0)
    stops-case n w true e more = let q : n + suc w ≡ suc n + w = omega arith in rw q more
    stops-case n w false e more = rw (add-zero n) (ltb-false (last_cell r h v n) c e)

    stops-from : (n fuel : ℕ) → c ≤ n + fuel → c ≤ last_cell r h v (n + whole_from r h v c n fuel)
    stops-from n zero le = omega (arith, own (n + 0))
    stops-from n (suc fuel) le =
        stops-case n (whole_from r h v c (suc n) fuel) (ltb (last_cell r h v n) c) refl (stops-from (suc n) fuel (omega arith))

    -- "stops at the first incomplete tile"
    pub next-incomplete : c ≤ last_cell r h v (whole_tiles r h v c)
    unfolding whole_tiles
    next-incomplete = rw (← zero-add (whole_from r h v c 0 c)) (stops-from 0 c (omega arith))

    -- and no other number of tiles is so
    pub whole-only : (k : ℕ) → ((n : ℕ) → n < k → last_cell r h v n < c) → c ≤ last_cell r h v k → whole_tiles r h v c ≡ k
    whole-only k complete stops =
        let w = whole_tiles r h v c in
        let low : w < k → ⊥ = λ l. omega (arith, complete w l, next-incomplete) in
        let high : k < w → ⊥ = λ l. omega (arith, tile-complete k l) in
        omega (arith, low, high)

-- ---- their number, in one formula: those of whole strips of cells, and in the strip after them as many as its last row of cells has

module _ (r h v : ℕ) (g : Grid r h v) where
  abbrev strip : ℕ
  strip = v * r

  abbrev tiles : ℕ
  tiles = r / h

  pub strip-some : 0 < strip
  strip-some = mul-pos g.down (row-some r h v g)

  -- a strip of cells is the rows above the last one, and the last
  strip-is : strip ≡ (v - 1) * r + r
  strip-is =
      let e : v ≡ v - 1 + 1 = omega (arith, g.down) in
      ap (λ (k : ℕ). k * r) e ∙ add-mul (v - 1) 1 r ∙ ap (λ (k : ℕ). (v - 1) * r + k) (one-mul r)

  tiles-strip : tiles ≤ strip
  tiles-strip = omega (arith, div-le_self r h, strip-is)

  pub own-cell : (n : ℕ) → n ≤ last_cell r h v n
  unfolding starts_at
  own-cell n =
      let rows : n / tiles * tiles ≤ n / tiles * strip = mul-le-mul_left (n / tiles) tiles-strip in
      let columns : n % tiles * 1 ≤ n % tiles * h = mul-le-mul_left (n % tiles) g.across in
      omega (arith, div-add-mod' n tiles, mul_assoc (n / tiles) v r)

  -- the tile in row i of tiles and column j
  starts : (i j : ℕ) → j < tiles → last_cell r h v (i * tiles + j) ≡ i * strip + j * h + (v - 1) * r + (h - 1)
  unfolding starts_at
  starts i j lt = rw (place-row tiles i j lt, place-column tiles i j lt, mul_assoc i v r)

  module _ (c : ℕ) where
    abbrev rest : ℕ
    rest = c % strip - (v - 1) * r

    pub whole-fits : c / strip * tiles ≤ c / strip * strip
    whole-fits = mul-le-mul_left (c / strip) tiles-strip

    pub count_fits : c / strip * tiles + rest / h ≤ c
    count_fits = omega (arith, whole-fits, div-le_self rest h, div-add-mod' c strip)

    last-few : rest / h < tiles
    last-few =
        let few : c % strip < strip = mod-lt c strip-some in
        (div-lt_iff_lt-mul g.across).1 (omega (arith, strip-is, sym g.row, row-some r h v g))

    formula-stops : c ≤ last_cell r h v (c / strip * tiles + rest / h)
    formula-stops = rw (starts (c / strip) (rest / h) last-few) (omega (arith, div-add-mod' c strip, div-add-mod' rest h, mod-lt rest g.across))

    formula-case : (i j : ℕ) → j < tiles → i * tiles + j < c / strip * tiles + rest / h → (b : Bool) → ltb i (c / strip) ≡ b
        → i * strip + j * h + (v - 1) * r + (h - 1) < c
    formula-case i j lt before true e =
        let last : j * h + h ≤ tiles * h = item-inside h tiles j lt in
        let all : i * strip + strip ≤ c / strip * strip = item-inside strip (c / strip) i (ltb-true i (c / strip) e) in
        omega (arith, strip-is, sym g.row, g.across, div-add-mod' c strip)
    formula-case i j lt before false e =
        let from : c / strip ≤ i = ltb-false i (c / strip) e in
        let upto : i < c / strip + 1 = lt_of_mul-lt-mul_right tiles (omega (arith, add-mul (c / strip) 1 tiles, last-few)) in
        let same : i ≡ c / strip = omega arith in
        let few : j < rest / h = omega (arith, ap (λ (k : ℕ). k * tiles) same) in
        let cells : j * h + h ≤ rest / h * h = item-inside h (rest / h) j few in
        omega (arith, ap (λ (k : ℕ). k * strip) same, div-add-mod' c strip, div-add-mod' rest h, g.across)

    formula-complete : (n : ℕ) → n < c / strip * tiles + rest / h → last_cell r h v n < c
    formula-complete n lt =
        let e : n / tiles * tiles + n % tiles ≡ n = div-add-mod' n tiles in
        let small : n % tiles < tiles = mod-lt n g.tiles in
        let there = formula-case (n / tiles) (n % tiles) small (omega arith) (ltb (n / tiles) (c / strip)) refl in
        subst (λ (k : ℕ). last_cell r h v k < c) e (rw (starts (n / tiles) (n % tiles) small) there)

    pub whole-tiles-are : whole_tiles r h v c ≡ c / (v * r) * (r / h) + (c % (v * r) - (v - 1) * r) / h
    whole-tiles-are = whole-only r h v c own-cell (c / strip * tiles + rest / h) formula-complete formula-stops

    -- no tile of a strip that ends before its last row of cells
    pub strips-only : c % strip < (v - 1) * r → c / strip * tiles ≡ whole_tiles r h v c
    strips-only lt =
        let none : rest ≡ 0 = omega arith in
        sym (whole-tiles-are ∙ ap (λ (k : ℕ). c / strip * tiles + k / h) none ∙ ap (λ (k : ℕ). c / strip * tiles + k) (zero-div h) ∙ add-zero (c / strip * tiles))

-- ---- sprites one after the other, other tiles by their cells

module _ (m d w h len : ℕ) where
  pub sprite-unit : m ≡ pce-sprite → tile_size d w h ≡ unit_bytes m d w h
  unfolding unit_bytes
  sprite-unit is = rw (eq-eqb m pce-sprite is)

  pub cell-unit : (m ≡ pce-sprite → ⊥) → d * 8 ≡ unit_bytes m d w h
  unfolding unit_bytes
  cell-unit other = rw (ne_eqb m pce-sprite other)

  pub sprite-count : m ≡ pce-sprite → len / tile_size d w h ≡ read_count m d w h len
  unfolding read_count
  sprite-count is = rw (eq-eqb m pce-sprite is)

  pub cell-count : (m ≡ pce-sprite → ⊥) → whole_tiles (row_cells m) (w / 8) (h / 8) (len / (d * 8)) ≡ read_count m d w h len
  unfolding read_count
  cell-count other = rw (ne_eqb m pce-sprite other)

module _ {m d w h : ℕ} (s : IsSet m d w h) where
  pub bytes-some : 0 < tile_size d w h
  bytes-some =
      let cell : 8 ≤ w = omega (arith, s.some, s.across) in
      let wide : 8 * 1 ≤ w * h = mul-le-mul cell s.tall in
      let deep : 8 * 1 * 1 ≤ w * h * d = mul-le-mul wide (bits-some s) in
      omega arith

  unit-case : (b : Bool) → 0 < cond b (tile_size d w h) (d * 8)
  unit-case true = bytes-some
  unit-case false = omega (arith, bits-some s)

  pub unit-some : 0 < unit_bytes m d w h
  unfolding unit_bytes
  unit-some = unit-case (eqb m pce-sprite)

-- ---- the checks

module _ (m d w h len space : ℕ) where
  abbrev count : ℕ
  count = read_count m d w h len

  abbrev part : ℕ
  part = len % unit_bytes m d w h

  abbrev last : List ℕ
  last = 7 when not (eqb part 0) ∷ 11 when ltb space (count * (w * h)) ∷ 12 when ltb 65535 count ∷ []

  pub read_refused : (e : Refusal) → refusal_number e ≡ set_says m d w h → refusal_number e ≡ read_says m d w h len space
  unfolding read_says set_says
  read_refused e given = refused_first (set_checks m d w h) last e given

  module _ (z : set_says m d w h ≡ 0) where
    after : read_says m d w h len space ≡ first_applying last
    unfolding read_says set_says
    after = checks-after (set_checks m d w h) last z

    pub read-7 : (part ≡ 0 → ⊥) → 7 ≡ read_says m d w h len space
    read-7 e = rw (after, ne_eqb part 0 e)

    pub read-11 : part ≡ 0 → space < count * (w * h) → 11 ≡ read_says m d w h len space
    read-11 whole lt = rw (after, eq-eqb part 0 whole, lt-ltb space (count * (w * h)) lt)

    pub read-12 : part ≡ 0 → count * (w * h) ≤ space → 65535 < count → 12 ≡ read_says m d w h len space
    read-12 whole le lt = rw (after, eq-eqb part 0 whole, le-ltb space (count * (w * h)) le, lt-ltb 65535 count lt)

    pub read-0 : part ≡ 0 → count * (w * h) ≤ space → count ≤ 65535 → 0 ≡ read_says m d w h len space
    read-0 whole le few = rw (after, eq-eqb part 0 whole, le-ltb space (count * (w * h)) le, le-ltb 65535 count few)

  module _ (z : read_says m d w h len space ≡ 0) where
    pub read-says-set : set_says m d w h ≡ 0
    unfolding read_says set_says
    read-says-set = checks-first (set_checks m d w h) last z

    passed : (k : ℕ) → get_or last k 0 ≡ 0
    unfolding read_says
    passed = all-passed last (checks-rest (set_checks m d w h) last z)

    pub read_whole : part ≡ 0
    read_whole = eqb-true part 0 (not-false (eqb part 0) (not-given 6 (not (eqb part 0)) (passed 0)))

    pub read-space : count * (w * h) ≤ space
    read-space = ltb-false space (count * (w * h)) (not-given 10 (ltb space (count * (w * h))) (passed 1))

    pub read-few : count ≤ 65535
    read-few = ltb-false 65535 count (not-given 11 (ltb 65535 count) (passed 2))

    pub read-set-of : IsSet m d w h
    read-set-of = set-of m d w h read-says-set

    -- what was read is a set in its store
    pub read_held : (flips : Bool) → held_says (read_set m d w h flips count) space ≡ 0
    unfolding set_room room_under
    read_held flips =
        let s = read-set-of in
        let whole : count ≤ space / (w * h) = (le-div_iff_mul-le {k = w * h} (mul-pos s.some s.tall)).1 read-space in
        sym (held-0 (read_set m d w h flips count) space read-says-set (omega (arith, read-few)))

-- ---- unpacking one of several native tiles of a buffer

module _ {m d w h : ℕ} (n : Native m d w h) where
  pub unpacked-length : (bytes : List ℕ) → length (unpacked m d w h bytes) ≡ w * h
  unpacked-length bytes = length-spread (layout_of m d w h).pixels bytes ∙ (fitting n).pixels

  pub unpacked-small : (bytes : List ℕ) (i : ℕ) → i < w * h → get_or (unpacked m d w h bytes) i 0 < 2 ^ d
  unpacked-small bytes i lt =
      subst (λ (k : ℕ). get_or (unpacked m d w h bytes) i 0 < 2 ^ k) (fitting n).bits (spread-lt (layout_of m d w h).pixels bytes i (rw (fitting n).pixels lt))

  module _ {p : Packing} (q : p ≡ packing_of m d w h) where
    pub unpacks-at : (bytes out : List ℕ) (from at : ℕ) → from + tile_size d w h ≤ length bytes → at + w * h ≤ length out → Unpacks p bytes from out at
    unpacks-at bytes out from at inside space =
        subst (λ (k : Packing). Unpacks k bytes from out at) (sym q)
        (record { sound = (fitting n).sound; inside = omega (arith, (fitting n).bytes); space = omega (arith, (fitting n).pixels) })

    pub unpacks-tile : (bytes : List ℕ) (from : ℕ) → unpacked_in p (take (byte_count p) (drop from bytes)) ≡ unpacked m d w h (take (tile_size d w h) (drop from bytes))
    unpacks-tile bytes from =
        ap (λ (k : Packing). unpacked_in k (take (byte_count k) (drop from bytes))) q
        ∙ ap (λ (k : ℕ). unpacked m d w h (take k (drop from bytes))) (fitting n).bytes

-- ---- cells

pub cell-size : (d : ℕ) → tile_size d 8 8 ≡ d * 8
cell-size d = omega arith

module _ {m d : ℕ} (n : Native m d 8 8) where
  pub cell-in-length : (bytes : List ℕ) (c : ℕ) → length (cell_in m d bytes c) ≡ 64
  cell-in-length bytes c = unpacked-length n (take (d * 8) (drop (c * (d * 8)) bytes))

  pub cell-in-small : (bytes : List ℕ) (c j : ℕ) → j < 64 → get_or (cell_in m d bytes c) j 0 < 2 ^ d
  cell-in-small bytes c = unpacked-small n (take (d * 8) (drop (c * (d * 8)) bytes))

  pub unpacks-cell : {p : Packing} → p ≡ packing_of m d 8 8 → (bytes : List ℕ) (from : ℕ)
      → unpacked_in p (take (byte_count p) (drop from bytes)) ≡ unpacked m d 8 8 (take (d * 8) (drop from bytes))
  unpacks-cell q bytes from = unpacks-tile n q bytes from ∙ ap (λ (k : ℕ). unpacked m d 8 8 (take k (drop from bytes))) (cell-size d)

-- a tile has as many pixels as its cells
pub cells-area : {m d w h : ℕ} → IsSet m d w h → w / 8 * (h / 8) * 64 ≡ w * h
cells-area {w} {h} s =
    let v = h / 8 in
    omega (arith, ap (λ (k : ℕ). k * h) s.across, ap (λ (k : ℕ). w / 8 * 8 * k) s.down, mul_assoc (w / 8) 8 (v * 8), mul_assoc (w / 8) v 8, mul_left_comm 8 v 8)

pub starts-few : (r h v : ℕ) → Grid r h v → (n : ℕ) → n ≤ 65535 → starts_at r h v n ≤ 9437040
unfolding starts_at
starts-few r h v g n few = omega (arith, start-row r h v g n few, start-across r h v g n few)

-- no cell of a tile comes after its last one
pub cells-before : (r h v n i j : ℕ) → i < v → j < h → starts_at r h v n + i * r + j ≤ last_cell r h v n
cells-before r h v n i j hi hj =
    let rows : i * r ≤ (v - 1) * r = mul-le-mul_right r (omega arith) in
    omega arith

-- the cells of a tile stand before its last one, and so among the bytes
module _ (r h v : ℕ) (g : Grid r h v) (n k : ℕ) (lt : k < h * v) where
  pub cell_row : k / h < v
  cell_row = (div-lt_iff_lt-mul g.across).1 (omega (arith, mul_comm h v))

  pub cell-before : starts_at r h v n + k / h * r + k % h ≤ last_cell r h v n
  cell-before = cells-before r h v n (k / h) (k % h) cell_row (mod-lt k g.across)

  pub cell-inside : (size len : ℕ) → (last_cell r h v n + 1) * size ≤ len → (starts_at r h v n + k / h * r + k % h) * size + size ≤ len
  cell-inside size len fits =
      let cell = starts_at r h v n + k / h * r + k % h in
      let one : (cell + 1) * size ≤ (last_cell r h v n + 1) * size = mul-le-mul_right size (omega (arith, cell-before)) in
      omega (arith, item-end size cell)

  pub cell-row-fits : k / h * r ≤ 128
  cell-row-fits = le_trans (mul-le-mul (cell-row-few) g.narrow) (omega arith)
    where
      cell-row-few : k / h ≤ 8
      cell-row-few = omega (arith, cell_row, g.low)

-- ---- the rows of a tile, out of its cells' pixels

module _ (w y len : ℕ) (across : w ≡ w / 8 * 8) (fits : (y / 8 * 8 + 8) * w ≤ len) where
  -- eight pixels of cell t of the row
  pub eight-inside : (t : ℕ) → t < w / 8 → (y / 8 * (w / 8) + t) * 64 + y % 8 * 8 + 8 ≤ len
  eight-inside t lt =
      let a = y / 8 * (w / 8) in
      let row : (y / 8 * 8 + 8) * w ≡ (a + w / 8) * 64 =
      omega (arith, add-mul (y / 8 * 8) 8 w, mul_assoc (y / 8) 8 w, ap (λ (k : ℕ). y / 8 * k) across, mul_assoc (y / 8) (w / 8) 8) in
      let cells : (a + t + 1) * 64 ≤ (a + w / 8) * 64 = mul-le-mul_right 64 (omega arith) in
      omega arith

-- the cells that row y of a tile lies in
pub rows_inside : (w h y len : ℕ) → h ≡ h / 8 * 8 → w * h ≤ len → y < h → (y / 8 * 8 + 8) * w ≤ len
rows_inside w h y len down fits lt =
    let rows : (y / 8 * 8 + 8) * w ≤ h * w = mul-le-mul_right w (omega (arith, down)) in
    omega (arith, mul_comm w h)

-- a row is the eights of its cells
pub row-eights : (w : ℕ) (cells : List ℕ) (y : ℕ) → w ≡ w / 8 * 8 → each (w / 8) (λ t. eight false cells ((y / 8 * (w / 8) + t) * 64 + y % 8 * 8)) ≡ row_of w cells y
row-eights w cells y across =
    let pixel : ℕ → List ℕ = λ x. get_or cells (place_in w y x) 0 ∷ [] in
    each-eq (w / 8) (λ t. eight false cells ((y / 8 * (w / 8) + t) * 64 + y % 8 * 8)) (λ t. each 8 (λ x. pixel (t * 8 + x)))
    (λ t ht. each-eq 8 (λ x. get_or cells ((y / 8 * (w / 8) + t) * 64 + y % 8 * 8 + x) 0 ∷ []) (λ x. pixel (t * 8 + x))
    (λ x hx.
    let cell : t ≡ (t * 8 + x) / 8 = omega arith in
    let column : x ≡ (t * 8 + x) % 8 = omega arith in
    ap₂ (λ (c k : ℕ). get_or cells ((y / 8 * (w / 8) + c) * 64 + y % 8 * 8 + k) 0 ∷ []) cell column))
    ∙ each-each (w / 8) 8 pixel
    ∙ ap (λ (n : ℕ). each n pixel) (sym across)

pub row-length : (w : ℕ) (cells : List ℕ) (y : ℕ) → length (row_of w cells y) ≡ w
row-length w cells y = length-each w 1 (λ x. get_or cells (place_in w y x) 0 ∷ []) (λ x. refl) ∙ mul-one w

pub cell-pixel : (m d w h : ℕ) (bytes : List ℕ) (t y x : ℕ) → (m ≡ pce-sprite → ⊥)
    → get_or (cell_in m d bytes (first_cell m w h t + y / 8 * row_cells m + x / 8)) (y % 8 * 8 + x % 8) 0 ≡ pixel_in m d w h bytes t y x
unfolding pixel_in
cell-pixel m d w h bytes t y x other = rw (ne_eqb m pce-sprite other)

-- they are the rows of the tile
module _ {m d w h : ℕ} (s : IsSet m d w h) (other : m ≡ pce-sprite → ⊥) (n : Native m d 8 8) (bytes rest : List ℕ) (t : ℕ) where
  abbrev f : ℕ → List ℕ
  f k = cell_in m d bytes (first_cell m w h t + k / (w / 8) * row_cells m + k % (w / 8))

  pixel-is : (y x : ℕ) → y < h → x < w → get_or (cells_in m d w h bytes t ++ rest) (place_in w y x) 0 ≡ pixel_in m d w h bytes t y x
  pixel-is y x hy hx =
      let hw = w / 8 in
      let i = y / 8 * hw + x / 8 in
      let j = y % 8 * 8 + x % 8 in
      let size : (k : ℕ) → length (f k) ≡ 64 = λ k. cell-in-length n bytes (first_cell m w h t + k / hw * row_cells m + k % hw) in
      let column : x / 8 < hw = omega (arith, s.across) in
      let in-tile : i < hw * (h / 8) = place-lt hw (h / 8) (y / 8) (x / 8) (omega (arith, s.down)) column in
      let small : j < 64 = omega arith in
      let place : place_in w y x ≡ i * 64 + j = omega arith in
      let inside : i * 64 + j < length (each (hw * (h / 8)) f) = omega (arith, length-each (hw * (h / 8)) 64 f size, item-inside 64 (hw * (h / 8)) i in-tile) in
      ap (λ (k : ℕ). get_or (each (hw * (h / 8)) f ++ rest) k 0) place
      ∙ get_or-append (each (hw * (h / 8)) f) rest 0 (i * 64 + j) inside
      ∙ item-get_or 64 f size (hw * (h / 8)) i in-tile j small
      ∙ ap (λ (k : ℕ). get_or (cell_in m d bytes (first_cell m w h t + k * row_cells m + i % hw)) j 0) (place-row hw (y / 8) (x / 8) column)
      ∙ ap (λ (k : ℕ). get_or (cell_in m d bytes (first_cell m w h t + y / 8 * row_cells m + k)) j 0) (place-column hw (y / 8) (x / 8) column)
      ∙ cell-pixel m d w h bytes t y x other

  -- the buffer is as long with them as it was
  pub cells-long : (before cells : List ℕ) → cells ≡ overwrite before (cells_in m d w h bytes t) → length before ≡ 4096 → length cells ≡ 4096
  cells-long before cells e long =
      let new = cells_in m d w h bytes t in
      let len : length new ≡ w / 8 * (h / 8) * 64 = length-each (w / 8 * (h / 8)) 64 f (λ k. cell-in-length n bytes (first_cell m w h t + k / (w / 8) * row_cells m + k % (w / 8))) in
      ap length e ∙ length-append new (drop (length new) before) ∙ omega (arith, length-drop (length new) before, cells-area s, s.small)

  pub rows_are : (cells : List ℕ) → cells ≡ cells_in m d w h bytes t ++ rest → each h (row_of w cells) ≡ tile_in m d w h bytes t
  rows_are cells e =
      each-eq h (row_of w cells) (row_in m d w h bytes t)
      (λ y hy. each-eq w (λ x. get_or cells (place_in w y x) 0 ∷ []) (λ x. pixel_in m d w h bytes t y x ∷ [])
      (λ x hx. ap (λ (k : ℕ). k ∷ []) (ap (λ (l : List ℕ). get_or l (place_in w y x) 0) e ∙ pixel-is y x hy hx)))

pub row-in-length : (m d w h : ℕ) (bytes : List ℕ) (n y : ℕ) → length (row_in m d w h bytes n y) ≡ w
row-in-length m d w h bytes n y = length-each w 1 (λ x. pixel_in m d w h bytes n y x ∷ []) (λ x. refl) ∙ mul-one w

pub tile-length : (m d w h : ℕ) (bytes : List ℕ) (n : ℕ) → length (tile_in m d w h bytes n) ≡ w * h
tile-length m d w h bytes n = length-each h w (row_in m d w h bytes n) (row-in-length m d w h bytes n) ∙ mul_comm h w

-- the pixels that reading puts into the store: 11 is by their number
pub read_length : (m d w h : ℕ) (bytes : List ℕ) → length (read_pixels m d w h bytes) ≡ read_count m d w h (length bytes) * (w * h)
unfolding read_pixels
read_length m d w h bytes = length-each (read_count m d w h (length bytes)) (w * h) (tile_in m d w h bytes) (tile-length m d w h bytes)

-- ---- the tiles

module _ {m d w h : ℕ} (s : IsSet m d w h) (other : m ≡ pce-sprite → ⊥) (len : ℕ) where
  -- the bytes have the cells of each tile that is read
  pub tile-inside : (n : ℕ) → n < read_count m d w h len → (last_cell (row_cells m) (w / 8) (h / 8) n + 1) * (d * 8) ≤ len
  tile-inside n lt =
      let size : 0 < d * 8 = omega (arith, bits-some s) in
      let last = tile-complete (row_cells m) (w / 8) (h / 8) (len / (d * 8)) n (rw (cell-count m d w h len other) lt) in
      (le-div_iff_mul-le {k = d * 8} size).0 (omega arith)

-- ---- a shape reads as its four numbers

module _ {m d w h : ℕ} {s : Shape} (is : IsShape m d w h s) where
  pub native-as : is_native s.mode s.width s.height ≡ is_native m w h
  native-as = rw (is.mode, is.width, is.height)

  pub says-as : (len space : ℕ) → read_says s.mode s.depth s.width s.height len space ≡ read_says m d w h len space
  says-as len space = rw (is.mode, is.depth, is.width, is.height)

  pub count-as : (len : ℕ) → read_count s.mode s.depth s.width s.height len ≡ read_count m d w h len
  count-as len = rw (is.mode, is.depth, is.width, is.height)

  pub pixels-as : (bytes : List ℕ) → read_pixels s.mode s.depth s.width s.height bytes ≡ read_pixels m d w h bytes
  pixels-as bytes = rw (is.mode, is.depth, is.width, is.height)

-- ---- the promise

module _ (m d w h : ℕ) (flips : Bool) (bytes store : List ℕ) where
  abbrev due : ℕ
  due = read_says m d w h (length bytes) (length store)

  abbrev result : Set
  result = read_set m d w h flips (read_count m d w h (length bytes))

  pub refuse-read : (r : Result Set Refusal) (e : Refusal) → refusal_number e ≡ due → IsErrAnd r (λ x. x ≡ e)
      → Reads m d w h flips bytes store (set_answer_by no_set r) store
  refuse-read r e given is =
      record {
        answer = ap (set_answer_by no_set) (passed_on r e is) ∙ refused-set (refusal_number e) result no_set given (refusal-not-done e);
        lent = sym (when-refused due (overwrite store (read_pixels m d w h bytes)) store (λ q. refusal-not-done e (given ∙ q)));
      }

  module _ {r : SetAnswer} {left : List ℕ} where
    pub done-read : due ≡ 0 → r ≡ record { refusal = 0; set = result } → left ≡ overwrite store (read_pixels m d w h bytes) → Reads m d w h flips bytes store r left
    done-read e a l =
        record {
          answer = a ∙ done-set result no_set e;
          lent = l ∙ sym (when-done due (overwrite store (read_pixels m d w h bytes)) store e);
        }
