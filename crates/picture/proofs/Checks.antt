-- What the checks answer, and what is known of a picture once they passed.
-- Assumes nothing.
use mathlib.Core.Path.{◌≡◌, refl, sym, ap, ◌∙◌, subst}
use mathlib.Core.Bool.{Bool, true, false, not, cond, ◌&&◌}
use mathlib.Core.List.{List, [], ◌∷◌}
use Prim.Native.Nat.{ℕ, ◌*◌, ◌/◌, ◌^◌, ◌<◌, ◌≤◌}
use native.Mathlib.Nat.{mul-le-mul, le_trans, le-div_iff_mul-le}
use native.Mathlib.Omega.{arith}
use lib.Dec.{T, leb, ltb, eqb, ltb→lt, leb→le}
use lib.ListN.{length, get_or}
use lib.Pow.{pow_mono}
use borrow.Author.Tests.{lt-ltb, le-ltb, ltb-false, eq-eqb, ne_eqb, eqb-true, eqb-false, not-false}
use Rattle.words.specs.Answers.{◌when◌, first_applying}
use Rattle.words.proofs.Answers.{all-passed, not-given, first-given, last-given}
use Rattle.words.proofs.Order.{first-append, next-given}
use Rattle.words.proofs.Loops.{both_left, both_right}
use Rattle.mode.specs.Table.{row, one_of, has_depth, pce-sprite}
use Rattle.mapentry.specs.Entry.{misfit_of, misfit_says}
use Rattle.mapentry.proofs.Laws.{small, fitting, no-misfit}
use Rattle.tile.specs.Tile.{tile_says}
use Rattle.tile.proofs.Native.{Native}
use Rattle.tileset.specs.Sets.{sides, set_says}
use Rattle.tileset.proofs.Says.{room_within}
use Rattle.tileset.proofs.Sizes.{IsSet, set-of, bits-some}
use Rattle.tileset.proofs.WritingLaws.{native-cell}
use Rattle.picture.specs.Entries.{entry_as}
use Rattle.picture.specs.Converting.{asked_checks, places, is_span, size_checks, size_says, picture_room, need_of, convert_says}
use Rattle.picture.specs.Inner.{asked_says, IsPicture}
use Rattle.picture.specs.declared.Settings.{Settings}

-- ---- a size

holds : (b : Bool) → not b ≡ false → T b
holds b e = subst T (sym (not-false b e)) tt

is_true : (b : Bool) → T b → b ≡ true
is_true true t = refl
is_true false t = absurd t

pub record IsSize (m d columns rows : ℕ) : Type 0 where
  pub mode : m < 16
  pub map : m ≡ pce-sprite → ⊥
  pub depth : T (has_depth m d)
  pub deep : d ≤ 8
  pub shallow : 0 < d
  pub some : 0 < columns
  pub narrow : columns ≤ 64
  pub tall : 0 < rows
  pub low : rows ≤ 64

-- tiles of 8x8 are native in such a mode, and allowed in its sets
one_width : (b : Bool) → one_of 8 (cond b sides (8 ∷ [])) ≡ true
one_width true = refl
one_width false = refl

module _ (m d : ℕ) (mode : m < 16) (map : m ≡ pce-sprite → ⊥) (depth : T (has_depth m d)) where
  pub tile-8 : tile_says m d 8 8 ≡ 0
  unfolding tile_says
  tile-8 = rw (le-ltb 15 m (omega arith), ne_eqb m pce-sprite map, is_true (has_depth m d) depth)

  pub set-8 : set_says m d 8 8 ≡ 0
  unfolding set_says
  set-8 = rw (le-ltb 15 m (omega arith), is_true (has_depth m d) depth, ne_eqb m pce-sprite map, one_width (eqb m 0))

  is_set : IsSet m d 8 8
  is_set = set-of m d 8 8 set-8

pub native-tile : {m d : ℕ} → m < 16 → (m ≡ pce-sprite → ⊥) → T (has_depth m d) → Native m d 8 8
native-tile {m} {d} mode map depth = native-cell (is_set m d mode map depth) map

pub some-depth : {m d : ℕ} → m < 16 → (m ≡ pce-sprite → ⊥) → T (has_depth m d) → 0 < d
some-depth {m} {d} mode map depth = bits-some (is_set m d mode map depth)

span : (n : ℕ) → T (is_span n) → (0 < n) × (n ≤ 64)
span n t = (ltb→lt 0 n (both_left (ltb 0 n) (leb n 64) t), leb→le n 64 (both_right (ltb 0 n) (leb n 64) t))

pub size_of : (m d columns rows : ℕ) → size_says m d columns rows ≡ 0 → IsSize m d columns rows
unfolding size_says
size_of m d columns rows z =
    let passed : (k : ℕ) → get_or (size_checks m d columns rows) k 0 ≡ 0 = all-passed (size_checks m d columns rows) z in
    let mode : m < 16 = omega (arith, ltb-false 15 m (not-given 0 (ltb 15 m) (passed 0))) in
    let map : m ≡ pce-sprite → ⊥ = eqb-false m pce-sprite (not-given 1 (eqb m pce-sprite) (passed 1)) in
    let depth : T (has_depth m d) = holds (has_depth m d) (not-given 2 (not (has_depth m d)) (passed 2)) in
    let spans : T (is_span columns && is_span rows) = holds (is_span columns && is_span rows) (not-given 3 (not (is_span columns && is_span rows)) (passed 3)) in
    let across = span columns (both_left (is_span columns) (is_span rows) spans) in
    let down = span rows (both_right (is_span columns) (is_span rows) spans) in
    record {
      mode = mode;
      map = map;
      depth = depth;
      deep = (is_set m d mode map depth).deep;
      shallow = some-depth mode map depth;
      some = across.0;
      narrow = across.1;
      tall = down.0;
      low = down.1;
    }

pub few-tiles : {m d columns rows : ℕ} → IsSize m d columns rows → columns * rows ≤ 4096
few-tiles {columns = columns} {rows = rows} s = mul-le-mul {n₁ = columns} {m₁ = rows} {n₂ = 64} {m₂ = 64} s.narrow s.low

-- ---- the checks of a conversion but the last

module _ (z : Settings) (len space : ℕ) where
  abbrev size : ℕ
  size = size_says z.mode z.depth z.columns z.rows

  abbrev lacks : Bool
  lacks = z.flip && eqb (row z.mode).flips 0

  abbrev misfit : ℕ
  misfit = misfit_says (misfit_of z.mode (entry_as 0 z.palette false false))

  abbrev short : Bool
  short = ltb space (places z * (row z.mode).entry)

  abbrev exact : Bool
  exact = eqb len (64 * places z)

  abbrev from-11 : List ℕ
  from-11 = 11 when short ∷ []

  abbrev from-7 : List ℕ
  from-7 = 7 when not exact ∷ misfit ∷ from-11

  abbrev from-5 : List ℕ
  from-5 = 5 when lacks ∷ from-7

  not-5 : lacks ≡ false → 5 when lacks ≡ 0
  not-5 e = ap (λ (b : Bool). 5 when b) e

  not-7 : len ≡ 64 * places z → 7 when not exact ≡ 0
  not-7 e = ap (λ (b : Bool). 7 when not b) (eq-eqb len (64 * places z) e)

  asked_is : asked_says z len space ≡ first_applying (size ∷ from-5)
  unfolding asked_says size_says
  asked_is = first-append (size_checks z.mode z.depth z.columns z.rows) from-5

  pub asked-size : (n : ℕ) → n ≡ size → (n ≡ 0 → ⊥) → n ≡ asked_says z len space
  asked-size n e h = first-given n from-5 e h ∙ sym asked_is

  module _ (s : size ≡ 0) where
    pub asked-5 : lacks ≡ true → 5 ≡ asked_says z len space
    asked-5 e = sym (asked_is ∙ next-given from-5 s ∙ ap (λ (b : Bool). first_applying (5 when b ∷ from-7)) e)

    module _ (f : lacks ≡ false) where
      pub asked-7 : (len ≡ 64 * places z → ⊥) → 7 ≡ asked_says z len space
      asked-7 e = sym (asked_is ∙ next-given from-5 s ∙ next-given from-7 (not-5 f) ∙ ap (λ (b : Bool). first_applying (7 when not b ∷ misfit ∷ from-11)) (ne_eqb len (64 * places z) e))

      module _ (l : len ≡ 64 * places z) where
        to-misfit : asked_says z len space ≡ first_applying (misfit ∷ from-11)
        to-misfit = asked_is ∙ next-given from-5 s ∙ next-given from-7 (not-5 f) ∙ next-given (misfit ∷ from-11) (not-7 l)

        pub asked-misfit : (n : ℕ) → n ≡ misfit → (n ≡ 0 → ⊥) → n ≡ asked_says z len space
        asked-misfit n e h = first-given n from-11 e h ∙ sym to-misfit

        module _ (p : misfit ≡ 0) where
          pub asked-11 : space < places z * (row z.mode).entry → 11 ≡ asked_says z len space
          asked-11 h = sym (to-misfit ∙ next-given from-11 p ∙ ap (λ (b : Bool). first_applying (11 when b ∷ [])) (lt-ltb space (places z * (row z.mode).entry) h))

          pub asked-0 : places z * (row z.mode).entry ≤ space → 0 ≡ asked_says z len space
          asked-0 h = sym (to-misfit ∙ next-given from-11 p ∙ ap (λ (b : Bool). first_applying (11 when b ∷ [])) (le-ltb space (places z * (row z.mode).entry) h))

  -- ---- nothing was refused

  module _ (a : asked_says z len space ≡ 0) where
    asked-passed : (k : ℕ) → get_or (size ∷ from-5) k 0 ≡ 0
    asked-passed = all-passed (size ∷ from-5) (sym asked_is ∙ a)

    pub size-passed : size ≡ 0
    size-passed = asked-passed 0

    pub asked-sized : IsSize z.mode z.depth z.columns z.rows
    asked-sized = size_of z.mode z.depth z.columns z.rows size-passed

    pub asked-picture : IsPicture z len
    asked-picture =
        let s = asked-sized in
        record {
          mode = s.mode;
          map = s.map;
          depth = s.depth;
          deep = s.deep;
          some = s.some;
          narrow = s.narrow;
          low = s.low;
          flips = not-given 4 lacks (asked-passed 1);
          whole = eqb-true len (64 * places z) (not-false exact (not-given 6 (not exact) (asked-passed 2)));
          palette = (fitting z.mode (entry_as 0 z.palette false false) (no-misfit (misfit_of z.mode (entry_as 0 z.palette false false)) (asked-passed 3))).palette;
        }

    pub asked-map : places z * (row z.mode).entry ≤ space
    asked-map = ltb-false space (places z * (row z.mode).entry) (not-given 10 short (asked-passed 4))

-- ---- room

module _ (z : Settings) (len : ℕ) where
  pub room-named : picture_room z len ≤ 2 ^ (row z.mode).tile
  unfolding picture_room
  room-named = (room_within z.limit (2 ^ (row z.mode).tile) (len / (z.depth * 8) ∷ [])).first

  pub room_most : z.mode < 16 → picture_room z len ≤ 4096
  room_most m = le_trans room-named (pow_mono {i = (row z.mode).tile} {j = 12} (small z.mode m).tile)

  room_whole : picture_room z len ≤ len / (z.depth * 8)
  unfolding picture_room
  room_whole = (room_within z.limit (2 ^ (row z.mode).tile) (len / (z.depth * 8) ∷ [])).others.0

  -- so many tiles fit the buffer
  pub room-bytes : 0 < z.depth → {n : ℕ} → n ≤ picture_room z len → n * (z.depth * 8) ≤ len
  room-bytes d {n} h = (le-div_iff_mul-le {k = z.depth * 8} (omega arith)).0 (le_trans h room_whole)

-- ---- every check

module _ (z : Settings) (pixels : List ℕ) (tile_space map_space : ℕ) where
  abbrev asked : ℕ
  asked = asked_says z (length pixels) map_space

  abbrev full : Bool
  full = ltb (picture_room z tile_space) (need_of 8 8 z pixels)

  -- the room alone decides where no check before it gives a number
  pub convert-is : convert_says z pixels tile_space map_space ≡ first_applying (asked ∷ 12 when full ∷ [])
  unfolding asked_says convert_says
  convert-is = first-append (asked_checks z (length pixels) map_space) (12 when full ∷ [])

  pub convert-asked : (n : ℕ) → n ≡ asked → (n ≡ 0 → ⊥) → n ≡ convert_says z pixels tile_space map_space
  convert-asked n e h = first-given n (12 when full ∷ []) e h ∙ sym convert-is

  module _ (a : asked ≡ 0) where
    pub to_room : convert_says z pixels tile_space map_space ≡ 12 when full
    to_room = convert-is ∙ next-given (12 when full ∷ []) a ∙ sym (last-given (12 when full))

    pub convert-12 : picture_room z tile_space < need_of 8 8 z pixels → 12 ≡ convert_says z pixels tile_space map_space
    convert-12 h = sym (to_room ∙ ap (λ (b : Bool). 12 when b) (lt-ltb (picture_room z tile_space) (need_of 8 8 z pixels) h))

    pub convert-0 : need_of 8 8 z pixels ≤ picture_room z tile_space → convert_says z pixels tile_space map_space ≡ 0
    convert-0 h = to_room ∙ ap (λ (b : Bool). 12 when b) (le-ltb (picture_room z tile_space) (need_of 8 8 z pixels) h)

  pub convert-passed : convert_says z pixels tile_space map_space ≡ 0 → (asked ≡ 0) × (need_of 8 8 z pixels ≤ picture_room z tile_space)
  convert-passed e =
      let passed : (k : ℕ) → get_or (asked ∷ 12 when full ∷ []) k 0 ≡ 0 = all-passed (asked ∷ 12 when full ∷ []) (sym convert-is ∙ e) in
      (passed 0, ltb-false (picture_room z tile_space) (need_of 8 8 z pixels) (not-given 11 full (passed 1)))
