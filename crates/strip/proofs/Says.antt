-- What the checks of a run answer, and what is known once they passed.
-- Assumes nothing.
use mathlib.Core.Path.{◌≡◌, refl, sym, ap, ◌∙◌, subst}
use mathlib.Core.Bool.{Bool, true, false, not, ◌&&◌, ◌||◌}
use mathlib.Core.List.{List, [], ◌∷◌, ◌++◌, append_assoc}
use Prim.Native.Nat.{ℕ, zero, suc, ◌+◌, ◌-◌, ◌*◌, ◌/◌, ◌%◌, ◌^◌, ◌<◌, ◌≤◌}
use native.Mathlib.Nat.{mul-le-mul, mul_comm, mul_left_comm, mul-add, div-add-mod', mul-le-mul_left, mul-le-mul_right, le_of_mul-le-mul_right, le_trans}
use native.Mathlib.Omega.{arith}
use lib.Dec.{T, ltb, eqb, ltb→lt, eqb→eq}
use lib.ListN.{length, get_or}
use lib.Pow.{pow_mono}
use borrow.Author.Tests.{lt-ltb, le-ltb, ltb-false, eq-eqb, ne_eqb, not-false}
use Rattle.words.specs.Answers.{◌when◌, first_applying}
use Rattle.words.specs.InnerResults.{refusal_number}
use Rattle.words.specs.declared.refusal.Refusal.{Refusal}
use Rattle.words.proofs.Answers.{all-passed, not-given, first-given, last-given, when-refused}
use Rattle.words.proofs.Items.{neither_left, neither_right}
use Rattle.words.proofs.Loops.{both_left, both_right}
use Rattle.words.proofs.Order.{first-append, next-given}
use Rattle.mode.specs.Table.{row}
use Rattle.mapentry.specs.Entry.{misfit_of, misfit_says}
use Rattle.mapentry.proofs.Laws.{small, fitting, no-misfit}
use Rattle.tileset.specs.Sets.{room_under}
use Rattle.tileset.proofs.Says.{room_within}
use Rattle.picture.specs.Entries.{entry_as}
use Rattle.picture.specs.Converting.{places, picture_room, size_checks, size_says, pictured}
use Rattle.picture.specs.Continuing.{goes_on_checks}
use Rattle.picture.specs.Inner.{IsPicture, CanGoOn, goes_on_says}
use Rattle.picture.specs.declared.Settings.{Settings}
use Rattle.picture.proofs.Checks.{IsSize, size_of, few-tiles}
use Rattle.words.proofs.Refusing.{refusal-not-done}
use Rattle.strip.specs.Strips.{settings_of, rows_of, run_at, no_run, started, settings_checks, palette_check, start_says, row_length, strip_of, written_by, record_checks, length_checks, strip_checks, take_says, end_says, ended}
use Rattle.strip.specs.Inner.{settings_says, HasRows, length_says, strip_says, counts_more}
use Rattle.strip.specs.declared.Run.{Run}
use Rattle.strip.specs.declared.RunAnswer.{RunAnswer}

-- ---- settings

-- the palette's check, by the mode as a value
abbrev pub palette_for : ℕ → Settings → ℕ
palette_for m z = misfit_says (misfit_of m (entry_as 0 z.palette false false))

abbrev answered : ℕ → Run → RunAnswer
answered n r = record { refusal = n; run = r }

module _ (z : Settings) where
  abbrev size : ℕ
  size = size_says z.mode z.depth z.columns z.rows

  abbrev lacks : Bool
  lacks = z.flip && eqb (row z.mode).flips 0

  settings-is : settings_says z ≡ first_applying (size ∷ 5 when lacks ∷ [])
  unfolding settings_says size_says
  settings-is = first-append (size_checks z.mode z.depth z.columns z.rows) (5 when lacks ∷ [])

  pub settings-size : (n : ℕ) → n ≡ size → (n ≡ 0 → ⊥) → n ≡ settings_says z
  settings-size n e h = first-given n (5 when lacks ∷ []) e h ∙ sym settings-is

  pub settings_refused : (e : Refusal) → refusal_number e ≡ size → refusal_number e ≡ settings_says z
  settings_refused e is = settings-size (refusal_number e) is (refusal-not-done e)

  module _ (s : size ≡ 0) where
    pub size_mode : z.mode < 16
    size_mode = (size_of z.mode z.depth z.columns z.rows s).mode

    pub settings-5 : lacks ≡ true → 5 ≡ settings_says z
    settings-5 e = sym (settings-is ∙ next-given (5 when lacks ∷ []) s ∙ ap (λ (b : Bool). first_applying (5 when b ∷ [])) e)

    pub settings-0 : lacks ≡ false → 0 ≡ settings_says z
    settings-0 e = sym (settings-is ∙ next-given (5 when lacks ∷ []) s ∙ ap (λ (b : Bool). first_applying (5 when b ∷ [])) e)

    -- by the mode as a value
    module _ {m : ℕ} {b : Bool} (is : m ≡ z.mode) (e : b ≡ (z.flip && eqb (row m).flips 0)) where
      lacks-is : lacks ≡ b
      lacks-is = ap (λ (k : ℕ). z.flip && eqb (row k).flips 0) (sym is) ∙ sym e

      pub lacks_flips : b ≡ true → 5 ≡ settings_says z
      lacks_flips t = settings-5 (lacks-is ∙ t)

      pub has_flips : b ≡ false → 0 ≡ settings_says z
      has_flips t = settings-0 (lacks-is ∙ t)

  -- once they passed
  module _ (e : settings_says z ≡ 0) where
    settings-passed : (k : ℕ) → get_or (size ∷ 5 when lacks ∷ []) k 0 ≡ 0
    settings-passed = all-passed (size ∷ 5 when lacks ∷ []) (sym settings-is ∙ e)

    pub settings-parts : (size ≡ 0) × (lacks ≡ false)
    settings-parts = (settings-passed 0, not-given 4 lacks (settings-passed 1))

    pub settings-sized : IsSize z.mode z.depth z.columns z.rows
    settings-sized = size_of z.mode z.depth z.columns z.rows settings-parts.0

    pub settings_mode : z.mode < 16
    settings_mode = settings-sized.mode

    pub settings_deep : (z.mode < 16) × (0 < z.depth) × (z.depth ≤ 8)
    settings_deep = let s = settings-sized in (s.mode, s.shallow, s.deep)

    -- rows of the picture are a picture, where the palette index fits
    pub rows-picture : palette_check z ≡ 0 → (n : ℕ) → n ≤ z.rows → {len : ℕ} → len ≡ 64 * (z.columns * n) → IsPicture (rows_of z n) len
    rows-picture fits n le whole =
        let s = settings-sized in
        record {
          mode = s.mode;
          map = s.map;
          depth = s.depth;
          deep = s.deep;
          some = s.some;
          narrow = s.narrow;
          low = omega (arith, s.low);
          flips = settings-parts.1;
          whole = whole;
          palette = (fitting z.mode (entry_as 0 z.palette false false) (no-misfit (misfit_of z.mode (entry_as 0 z.palette false false)) fits)).palette;
        }

  -- ---- a start

  start_is : start_says z ≡ first_applying (settings_says z ∷ palette_check z ∷ [])
  unfolding start_says settings_says
  start_is = first-append (settings_checks z) (palette_check z ∷ [])

  pub start-settings : (n : ℕ) → n ≡ settings_says z → (n ≡ 0 → ⊥) → n ≡ start_says z
  start-settings n e h = first-given n (palette_check z ∷ []) e h ∙ sym start_is

  pub start-palette : settings_says z ≡ 0 → palette_check z ≡ start_says z
  start-palette e = last-given (palette_check z) ∙ sym (start_is ∙ next-given (palette_check z ∷ []) e)

  pub start_refused : (e : Refusal) → refusal_number e ≡ settings_says z → refusal_number e ≡ start_says z
  start_refused e is = start-settings (refusal_number e) is (refusal-not-done e)

  pub start_told : {n m : ℕ} → settings_says z ≡ 0 → m ≡ z.mode → n ≡ palette_for m z → n ≡ start_says z
  start_told e is told = told ∙ ap (λ (k : ℕ). palette_for k z) is ∙ start-palette e

  pub start-passed : start_says z ≡ 0 → (settings_says z ≡ 0) × (palette_check z ≡ 0)
  start-passed e =
      let passed : (k : ℕ) → get_or (settings_says z ∷ palette_check z ∷ []) k 0 ≡ 0 = all-passed (settings_says z ∷ palette_check z ∷ []) (sym start_is ∙ e) in
      (passed 0, passed 1)

  -- its answer, refused or not
  pub start-refused : (n : ℕ) {r : Run} → n ≡ start_says z → (n ≡ 0 → ⊥) → r ≡ no_run → answered n r ≡ started (start_says z) z
  start-refused n e h none = ap (answered n) (none ∙ sym (when-refused n (run_at z 0 0 0) no_run h)) ∙ ap (λ (k : ℕ). started k z) e

  pub start-done : {r : Run} → start_says z ≡ 0 → r ≡ run_at z 0 0 0 → answered 0 r ≡ started (start_says z) z
  start-done e begun = ap (answered 0) begun ∙ ap (λ (k : ℕ). started k z) (sym e)

-- ---- a record

either-false : (a b : Bool) → a ≡ false → b ≡ false → (a || b) ≡ false
either-false a b p q = rw (p, q)

module _ (r : Run) (room : ℕ) where
  pub counts-no : r.tiles ≤ room → r.taken ≤ r.rows → counts_more r room ≡ false
  counts-no t n = either-false (ltb room r.tiles) (ltb r.rows r.taken) (le-ltb room r.tiles t) (le-ltb r.rows r.taken n)

  pub counts-fit : counts_more r room ≡ false → (r.tiles ≤ room) × (r.taken ≤ r.rows)
  counts-fit e = (
    ltb-false room r.tiles (neither_left (ltb room r.tiles) (ltb r.rows r.taken) e),
    ltb-false r.rows r.taken (neither_right (ltb room r.tiles) (ltb r.rows r.taken) e),
  )

  -- the checks of the record, before others
  record_is : (ns : List ℕ) → first_applying (record_checks r room ++ ns) ≡ first_applying (settings_says (settings_of r) ∷ 6 when counts_more r room ∷ ns)
  unfolding settings_says
  record_is ns =
      ap first_applying (append_assoc (settings_checks (settings_of r)) (6 when counts_more r room ∷ []) ns)
      ∙ first-append (settings_checks (settings_of r)) (6 when counts_more r room ∷ ns)

-- ---- a strip's length

module _ (r : Run) (len map_space : ℕ) where
  abbrev past : Bool
  past = ltb ((r.rows - r.taken) * row_length r) len

  abbrev whole : Bool
  whole = ltb 0 len && eqb (len % row_length r) 0

  abbrev short : Bool
  short = ltb map_space (places (settings_of r) * (row r.mode).entry)

  abbrev from-11 : List ℕ
  from-11 = 11 when short ∷ []

  abbrev from-16 : List ℕ
  from-16 = palette_check (settings_of r) ∷ from-11

  pub length-19 : (r.rows - r.taken) * row_length r < len → 19 ≡ length_says r len map_space
  unfolding length_says
  length-19 h = sym (ap (λ (b : Bool). first_applying (19 when b ∷ 7 when not whole ∷ from-16)) (lt-ltb ((r.rows - r.taken) * row_length r) len h))

  module _ (p : len ≤ (r.rows - r.taken) * row_length r) where
    to-7 : length_says r len map_space ≡ first_applying (7 when not whole ∷ from-16)
    unfolding length_says
    to-7 = ap (λ (b : Bool). first_applying (19 when b ∷ 7 when not whole ∷ from-16)) (le-ltb ((r.rows - r.taken) * row_length r) len p)

    pub length_none : len ≡ 0 → 7 ≡ length_says r len map_space
    length_none e = sym (to-7 ∙ ap (λ (b : Bool). first_applying (7 when not (b && eqb (len % row_length r) 0) ∷ from-16)) (le-ltb 0 len (omega arith)))

    module _ (o : 0 < len) where
      not_none : whole ≡ eqb (len % row_length r) 0
      not_none = ap (λ (b : Bool). b && eqb (len % row_length r) 0) (lt-ltb 0 len o)

      pub length-odd : (len % row_length r ≡ 0 → ⊥) → 7 ≡ length_says r len map_space
      length-odd h = sym (to-7 ∙ ap (λ (b : Bool). first_applying (7 when not b ∷ from-16)) (not_none ∙ ne_eqb (len % row_length r) 0 h))

      module _ (w : len % row_length r ≡ 0) where
        to-16 : length_says r len map_space ≡ first_applying from-16
        to-16 = to-7 ∙ ap (λ (b : Bool). first_applying (7 when not b ∷ from-16)) (not_none ∙ eq-eqb (len % row_length r) 0 w)

        pub length-misfit : (n : ℕ) → n ≡ palette_check (settings_of r) → (n ≡ 0 → ⊥) → n ≡ length_says r len map_space
        length-misfit n e h = first-given n from-11 e h ∙ sym to-16

        pub length_refused : (e : Refusal) {m : ℕ} → m ≡ r.mode → refusal_number e ≡ palette_for m (settings_of r) → refusal_number e ≡ length_says r len map_space
        length_refused e is told = length-misfit (refusal_number e) (told ∙ ap (λ (k : ℕ). palette_for k (settings_of r)) is) (refusal-not-done e)

        module _ (f : palette_check (settings_of r) ≡ 0) where
          pub length-11 : map_space < places (settings_of r) * (row r.mode).entry → 11 ≡ length_says r len map_space
          length-11 h = sym (to-16 ∙ next-given from-11 f ∙ ap (λ (b : Bool). first_applying (11 when b ∷ [])) (lt-ltb map_space (places (settings_of r) * (row r.mode).entry) h))

          pub length-0 : places (settings_of r) * (row r.mode).entry ≤ map_space → 0 ≡ length_says r len map_space
          length-0 h = sym (to-16 ∙ next-given from-11 f ∙ ap (λ (b : Bool). first_applying (11 when b ∷ [])) (le-ltb map_space (places (settings_of r) * (row r.mode).entry) h))

        -- by the mode as a value
        module _ {m k : ℕ} (is : m ≡ r.mode) (fits : palette_for m (settings_of r) ≡ 0) (entry : k ≡ (row m).entry) where
          palette-is : palette_check (settings_of r) ≡ 0
          palette-is = ap (λ (i : ℕ). palette_for i (settings_of r)) (sym is) ∙ fits

          entry-is : k ≡ (row r.mode).entry
          entry-is = entry ∙ ap (λ (i : ℕ). (row i).entry) is

          pub length_short : map_space < places (settings_of r) * k → 11 ≡ length_says r len map_space
          length_short h = length-11 palette-is (subst (λ (n : ℕ). map_space < places (settings_of r) * n) entry-is h)

          pub length_fine : places (settings_of r) * k ≤ map_space → 0 ≡ length_says r len map_space
          length_fine h = length-0 palette-is (subst (λ (n : ℕ). places (settings_of r) * n ≤ map_space) entry-is h)

-- the sizes that a record's own checks leave
module _ (r : Run) (fine : settings_says (settings_of r) ≡ 0) where
  pub run_sized : IsSize r.mode r.depth r.columns r.rows
  run_sized = settings-sized (settings_of r) fine

  pub places_few : r.columns * r.rows ≤ 4096
  places_few = few-tiles run_sized

  pub row_few : 64 * r.columns ≤ 4096
  row_few = omega (arith, run_sized.narrow)

  pub left_few : (r.rows - r.taken) * (64 * r.columns) ≤ 64 * 4096
  left_few = mul-le-mul {n₁ = r.rows - r.taken} {m₁ = 64 * r.columns} {n₂ = 64} {m₂ = 4096} (omega (arith, run_sized.low)) row_few

  pub entries_few : {m k : ℕ} → m ≡ r.mode → k ≡ (row m).entry → r.columns * r.rows * k ≤ 4096 * 2
  entries_few {m} {k} is e =
      mul-le-mul {n₁ = r.columns * r.rows} {m₁ = k} {n₂ = 4096} {m₂ = 2} (few-tiles run_sized)
      (omega (arith, e, is, (small r.mode run_sized.mode).entry, ap (λ (i : ℕ). (row i).entry) is))

-- ---- a strip

module _ (r : Run) (len tile_space map_space : ℕ) where
  abbrev more : Bool
  more = counts_more r (picture_room (settings_of r) tile_space)

  strip-is : strip_says r len tile_space map_space ≡ first_applying (settings_says (settings_of r) ∷ 6 when more ∷ length_checks r len map_space)
  unfolding strip_says
  strip-is = record_is r (picture_room (settings_of r) tile_space) (length_checks r len map_space)

  pub strip-settings : (n : ℕ) → n ≡ settings_says (settings_of r) → (n ≡ 0 → ⊥) → n ≡ strip_says r len tile_space map_space
  strip-settings n e h = first-given n (6 when more ∷ length_checks r len map_space) e h ∙ sym strip-is

  module _ (s : settings_says (settings_of r) ≡ 0) where
    to-6 : strip_says r len tile_space map_space ≡ first_applying (6 when more ∷ length_checks r len map_space)
    to-6 = strip-is ∙ next-given (6 when more ∷ length_checks r len map_space) s

    pub strip-6 : more ≡ true → 6 ≡ strip_says r len tile_space map_space
    strip-6 e = sym (to-6 ∙ ap (λ (b : Bool). first_applying (6 when b ∷ length_checks r len map_space)) e)

    pub strip-length : more ≡ false → length_says r len map_space ≡ strip_says r len tile_space map_space
    unfolding length_says
    strip-length e = sym (to-6 ∙ ap (λ (b : Bool). first_applying (6 when b ∷ length_checks r len map_space)) e)

  -- by the settings as a value
  module _ {y : Settings} (is : y ≡ settings_of r) where
    pub strip_refused : (e : Refusal) → refusal_number e ≡ settings_says y → refusal_number e ≡ strip_says r len tile_space map_space
    strip_refused e told = strip-settings (refusal_number e) (told ∙ ap settings_says is) (refusal-not-done e)

    module _ (s : settings_says y ≡ 0) {n : ℕ} {b : Bool} (room : n ≡ picture_room y tile_space) (e : b ≡ counts_more r n) where
      more-is : more ≡ b
      more-is = sym (e ∙ ap (counts_more r) (room ∙ ap (λ (z : Settings). picture_room z tile_space) is))

      fine-is : settings_says (settings_of r) ≡ 0
      fine-is = ap settings_says (sym is) ∙ s

      pub strip_full : b ≡ true → 6 ≡ strip_says r len tile_space map_space
      strip_full t = strip-6 fine-is (more-is ∙ t)

      pub strip_told : b ≡ false → {k : ℕ} → k ≡ length_says r len map_space → k ≡ strip_says r len tile_space map_space
      strip_told t told = told ∙ strip-length fine-is (more-is ∙ t)

      pub strip_rows : b ≡ false → HasRows r
      strip_rows t = record { settings = fine-is; taken = (counts-fit r (picture_room (settings_of r) tile_space) (more-is ∙ t)).1 }

-- a strip that passed them
pub record IsStrip (r : Run) (len tile_space map_space : ℕ) : Type 0 where
  pub settings : settings_says (settings_of r) ≡ 0
  pub tiles : r.tiles ≤ picture_room (settings_of r) tile_space
  pub taken : r.taken ≤ r.rows
  pub inside : len ≤ (r.rows - r.taken) * row_length r
  pub some : 0 < len
  pub whole : len % row_length r ≡ 0
  pub palette : palette_check (settings_of r) ≡ 0
  pub space : places (settings_of r) * (row r.mode).entry ≤ map_space

module _ (r : Run) (len tile_space map_space : ℕ) (e : strip_says r len tile_space map_space ≡ 0) where
  abbrev checks : List ℕ
  checks = settings_says (settings_of r) ∷ 6 when more r len tile_space map_space ∷ length_checks r len map_space

  strip-passed : (k : ℕ) → get_or checks k 0 ≡ 0
  strip-passed = all-passed checks (sym (strip-is r len tile_space map_space) ∙ e)

  all-rows : T (whole r len map_space)
  all-rows = subst T (sym (not-false (whole r len map_space) (not-given 6 (not (whole r len map_space)) (strip-passed 3)))) tt

  pub is-strip : IsStrip r len tile_space map_space
  is-strip =
      let counts = counts-fit r (picture_room (settings_of r) tile_space) (not-given 5 (more r len tile_space map_space) (strip-passed 1)) in
      record {
        settings = strip-passed 0;
        tiles = counts.0;
        taken = counts.1;
        inside = ltb-false ((r.rows - r.taken) * row_length r) len (not-given 18 (past r len map_space) (strip-passed 2));
        some = ltb→lt 0 len (both_left (ltb 0 len) (eqb (len % row_length r) 0) all-rows);
        whole = eqb→eq (len % row_length r) 0 (both_right (ltb 0 len) (eqb (len % row_length r) 0) all-rows);
        palette = strip-passed 4;
        space = ltb-false map_space (places (settings_of r) * (row r.mode).entry) (not-given 10 (short r len map_space) (strip-passed 5));
      }

-- its rows
pub room-rows : (z : Settings) (n len : ℕ) → picture_room (rows_of z n) len ≡ picture_room z len
unfolding picture_room
room-rows z n len = refl

module _ {r : Run} {len tile_space map_space : ℕ} (s : IsStrip r len tile_space map_space) where
  abbrev pub rows_in : ℕ
  rows_in = len / row_length r

  sized : IsSize r.mode r.depth r.columns r.rows
  sized = settings-sized (settings_of r) s.settings

  row-some : 0 < row_length r
  row-some = omega (arith, sized.some)

  rows_are : rows_in * row_length r ≡ len
  rows_are = omega (arith, div-add-mod' len (row_length r), s.whole)

  pub rows-bytes : len ≡ 64 * (r.columns * rows_in)
  rows-bytes = omega (arith, rows_are, mul_left_comm rows_in 64 r.columns, mul_comm rows_in r.columns)

  pub rows_left : rows_in ≤ r.rows - r.taken
  rows_left = le_of_mul-le-mul_right {k = row_length r} (omega (arith, rows_are, s.inside)) row-some

  pub rows-low : r.taken + rows_in ≤ r.rows
  rows-low = omega (arith, rows_left, s.taken)

  pub few-places : r.columns * r.rows ≤ 4096
  few-places = few-tiles sized

  -- entries before the strip, and its own
  pub entries-low : r.taken * r.columns + r.columns * rows_in ≤ r.columns * r.rows
  entries-low =
      omega (arith, mul-le-mul_left r.columns rows-low, mul-add r.columns r.taken rows_in, mul_comm r.taken r.columns)

  -- so the strip can go on
  pub can-go-on : CanGoOn (rows_of (settings_of r) rows_in) r.tiles (r.taken * r.columns) len tile_space map_space
  can-go-on =
      record {
        picture = rows-picture (settings_of r) s.settings s.palette rows_in (omega (arith, rows-low)) rows-bytes;
        room = omega (arith, s.tiles, room-rows (settings_of r) rows_in tile_space);
        few = omega (arith, entries-low, few-places);
        space = le_trans (mul-le-mul_right (row r.mode).entry entries-low) s.space;
      }

-- ---- every check of a strip

module _ (r : Run) (pixels tiles : List ℕ) (map_space : ℕ) where
  abbrev counted : ℕ
  counted = strip_says r (length pixels) (length tiles) map_space

  abbrev later : ℕ
  later = goes_on_says (strip_of r pixels) pixels (written_by r tiles) r.discarded (length tiles)

  pub take-is : take_says r pixels tiles map_space ≡ first_applying (counted ∷ later ∷ [])
  unfolding take_says strip_says goes_on_says
  take-is =
      first-append (strip_checks r (length pixels) (length tiles) map_space) (goes_on_checks (strip_of r pixels) pixels (written_by r tiles) r.discarded (length tiles))
      ∙ two counted (goes_on_checks (strip_of r pixels) pixels (written_by r tiles) r.discarded (length tiles))
    where
      two : (n : ℕ) (ns : List ℕ) → first_applying (n ∷ ns) ≡ first_applying (n ∷ first_applying ns ∷ [])
      two zero ns = last-given (first_applying ns)
      two (suc n) ns = refl

  pub take-strip : (n : ℕ) → n ≡ counted → (n ≡ 0 → ⊥) → n ≡ take_says r pixels tiles map_space
  take-strip n e h = first-given n (later ∷ []) e h ∙ sym take-is

  pub take-later : counted ≡ 0 → take_says r pixels tiles map_space ≡ later
  take-later e = take-is ∙ next-given (later ∷ []) e ∙ sym (last-given later)

  pub take-passed : take_says r pixels tiles map_space ≡ 0 → (counted ≡ 0) × (later ≡ 0)
  take-passed e =
      let passed : (k : ℕ) → get_or (counted ∷ later ∷ []) k 0 ≡ 0 = all-passed (counted ∷ later ∷ []) (sym take-is ∙ e) in
      (passed 0, passed 1)

-- ---- an end

module _ (r : Run) where
  abbrev all : ℕ
  all = room_under r.limit (2 ^ (row r.mode).tile) []

  abbrev early : Bool
  early = ltb r.taken r.rows

  abbrev end-19 : List ℕ
  end-19 = 19 when early ∷ palette_check (settings_of r) ∷ []

  end_is : end_says r ≡ first_applying (settings_says (settings_of r) ∷ 6 when counts_more r all ∷ end-19)
  unfolding end_says
  end_is = record_is r all end-19

  pub end-settings : (n : ℕ) → n ≡ settings_says (settings_of r) → (n ≡ 0 → ⊥) → n ≡ end_says r
  end-settings n e h = first-given n (6 when counts_more r all ∷ end-19) e h ∙ sym end_is

  module _ (s : settings_says (settings_of r) ≡ 0) where
    end-to-6 : end_says r ≡ first_applying (6 when counts_more r all ∷ end-19)
    end-to-6 = end_is ∙ next-given (6 when counts_more r all ∷ end-19) s

    pub end-6 : counts_more r all ≡ true → 6 ≡ end_says r
    end-6 e = sym (end-to-6 ∙ ap (λ (b : Bool). first_applying (6 when b ∷ end-19)) e)

    module _ (c : counts_more r all ≡ false) where
      end-to-19 : end_says r ≡ first_applying end-19
      end-to-19 = end-to-6 ∙ ap (λ (b : Bool). first_applying (6 when b ∷ end-19)) c

      pub end-early : r.taken < r.rows → 19 ≡ end_says r
      end-early h = sym (end-to-19 ∙ ap (λ (b : Bool). first_applying (19 when b ∷ palette_check (settings_of r) ∷ [])) (lt-ltb r.taken r.rows h))

      pub end-palette : r.rows ≤ r.taken → palette_check (settings_of r) ≡ end_says r
      end-palette h =
          last-given (palette_check (settings_of r))
          ∙ sym (end-to-19 ∙ ap (λ (b : Bool). first_applying (19 when b ∷ palette_check (settings_of r) ∷ [])) (le-ltb r.taken r.rows h))

  pub end_settings_refused : {y : Settings} → y ≡ settings_of r → (e : Refusal) → refusal_number e ≡ settings_says y → refusal_number e ≡ end_says r
  end_settings_refused is e told = end-settings (refusal_number e) (told ∙ ap settings_says is) (refusal-not-done e)

  pub run_fine : {y : Settings} → y ≡ settings_of r → settings_says y ≡ 0 → settings_says (settings_of r) ≡ 0
  run_fine is s = ap settings_says (sym is) ∙ s

  -- by the mode as a value
  module _ (s : settings_says (settings_of r) ≡ 0) {m most n : ℕ} {b : Bool} (is : m ≡ r.mode) (top : most ≡ 2 ^ (row m).tile)
      (room : n ≡ room_under r.limit most []) (e : b ≡ counts_more r n) where
    more-at-end : counts_more r all ≡ b
    more-at-end =
        sym (e ∙ ap (counts_more r) (room ∙ ap (λ (k : ℕ). room_under r.limit k []) (top ∙ ap (λ (k : ℕ). 2 ^ (row k).tile) is)))

    pub end_full : b ≡ true → 6 ≡ end_says r
    end_full t = end-6 s (more-at-end ∙ t)

    module _ (t : b ≡ false) where
      pub end_early : r.taken < r.rows → 19 ≡ end_says r
      end_early = end-early s (more-at-end ∙ t)

      pub end_told : r.rows ≤ r.taken → {k : ℕ} → k ≡ palette_for m (settings_of r) → k ≡ end_says r
      end_told h told = told ∙ ap (λ (k : ℕ). palette_for k (settings_of r)) is ∙ end-palette s (more-at-end ∙ t) h

  -- once they passed
  module _ (e : end_says r ≡ 0) where
    end-passed : (k : ℕ) → get_or (settings_says (settings_of r) ∷ 6 when counts_more r all ∷ end-19) k 0 ≡ 0
    end-passed = all-passed (settings_says (settings_of r) ∷ 6 when counts_more r all ∷ end-19) (sym end_is ∙ e)

    pub end-sized : settings_says (settings_of r) ≡ 0
    end-sized = end-passed 0

    pub end-counts : (r.tiles ≤ all) × (r.taken ≤ r.rows)
    end-counts = counts-fit r all (not-given 5 (counts_more r all) (end-passed 1))

    pub end-few : r.tiles ≤ 4096
    end-few =
        let m = (settings-sized (settings_of r) end-sized).mode in
        let named = (room_within r.limit (2 ^ (row r.mode).tile) []).first in
        omega (arith, end-counts.0, named, pow_mono {i = (row r.mode).tile} {j = 12} (small r.mode m).tile)

    pub end_mode : r.mode < 16
    end_mode = (run_sized r end-sized).mode

    pub end_deep : r.depth ≤ 8
    end_deep = (run_sized r end-sized).deep

    pub end_places : r.columns * r.rows ≤ 4096
    end_places = places_few r end-sized

    pub end_entries : {m k : ℕ} → m ≡ r.mode → k ≡ (row m).entry → r.columns * r.rows * k ≤ 4096 * 2
    end_entries = entries_few r end-sized

    pub end_bytes : r.tiles * (r.depth * 8) ≤ 4096 * 64
    end_bytes =
        mul-le-mul {n₁ = r.tiles} {m₁ = r.depth * 8} {n₂ = 4096} {m₂ = 64} end-few (omega (arith, end_deep))

  pub end_refused : (n : ℕ) → n ≡ end_says r → (n ≡ 0 → ⊥) → pictured n 0 0 0 0 ≡ ended (end_says r) r
  end_refused zero e h = absurd (h refl)
  end_refused (suc n) e h = ap (λ (k : ℕ). ended k r) e

-- what each check is proved by
pub ruleset settings_rules = (settings_refused, size_mode, lacks_flips, has_flips)

pub ruleset start_rules = (start_refused, settings_mode, start_told)

pub ruleset length_rules = (length-19, length_none, length-odd, length_refused, length_short, length_fine, settings_mode, row_few, left_few, places_few, entries_few)

pub ruleset strip_rules = (strip_refused, settings_deep, strip_full, strip_told, strip_rows)

pub ruleset end_rules = (end_settings_refused, run_fine, settings_mode, end_full, end_early, end_told)

pub ruleset ended_rules = (end_mode, end_deep, end_places, end_entries, end_bytes)
