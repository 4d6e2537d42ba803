-- Which number the program tells: 14 exactly where the input is no sheet, and 11 never.
-- Assumes nothing.
use Prim.Native.Nat.{ℕ, zero, suc, ◌*◌, ◌^◌, ◌<◌, ◌≤◌}
use mathlib.Core.Path.{◌≡◌, refl, sym, ap, ◌∙◌, subst}
use mathlib.Core.Bool.{Bool, not, ◌&&◌}
use mathlib.Core.Logic.{⊎_elim}
use mathlib.Core.List.{List, [], ◌∷◌}
use native.Mathlib.Nat.{mul-le-mul}
use native.Mathlib.Omega.{arith}
use lib.Dec.{T, leb, ltb, eqb, leb→le}
use lib.ListN.{length, drop}
use borrow.Author.Tests.{le-ltb, eqb-false}
use Rattle.words.specs.Answers.{◌when◌, first_applying}
use Rattle.words.specs.declared.Written.{Written}
use Rattle.words.proofs.Loops.{either, all-at}
use Rattle.mode.specs.Table.{row, one_of, has_depth, pce-sprite}
use Rattle.mapentry.specs.Entry.{misfit_says}
use Rattle.mapentry.specs.declared.Misfit.TheVariants.{Palette}
use Rattle.picture.specs.declared.Settings.{Settings}
use Rattle.picture.specs.Converting.{places, is_span, picture_room, need_of, convert_checks, convert_says}
use Rattle.picture.proofs.Palette.{palette-field}
use Rattle.sheet.specs.Sheet.{sheet_lines, side_most, values_of, sheet_in, Within, IsSheet}
use Rattle.sheet.specs.Program.{tile_space, map_space, out_space, picture_says, sheet_number, number_of, text_of, Ran}
use Rattle.sheet.specs.declared.Sheet.{Sheet}
use Rattle.std.specs.Prelude.{Option, Some, None}
use Rattle.sheet.proofs.Lines.{bounded, area_small}
use Rattle.sheet.proofs.Telling.{ran-leaves}
use Rattle.sheet.proofs.Exact.{sheets-read, only-sheets}
use Rattle.sheet.proofs.Fitting.{run-answers}

-- the numbers of a conversion's checks, but for the map's: its space is enough for every sheet
abbrev numbers : List ℕ
numbers = 0 ∷ 1 ∷ 2 ∷ 3 ∷ 4 ∷ 5 ∷ 7 ∷ misfit_says (Some Palette) ∷ 12 ∷ []

unfoldable Among : ℕ → Type 0
Among n = T (one_of n numbers)

abbrev AllAmong : List ℕ → Type 0
AllAmong [] = Unit {0}
AllAmong (n ∷ ns) = Among n × AllAmong ns

first-among : (ns : List ℕ) → AllAmong ns → Among (first_applying ns)
unfolding Among
first-among [] h = tt
first-among (zero ∷ ns) h = first-among ns h.1
first-among (suc n ∷ ns) h = h.0

when-among : (n : ℕ) (b : Bool) → Among n → Among (n when b)
unfolding Among
when-among n b h = either Among b n 0 h tt

-- a sheet's map has 32 x 32 entries of two bytes at most
map-fits : (z : Settings) → Within sheet_lines (values_of z) → places z * (row z.mode).entry ≤ map_space
unfolding row
map-fits z w =
    let b = bounded z w in
    let entry : (row z.mode).entry ≤ 2 = leb→le (row z.mode).entry 2 (all-at 16 (λ m. leb (row m).entry 2) tt z.mode (omega (arith, b.known))) in
    mul-le-mul {n₂ = side_most * side_most} (area_small b) entry

says-among : (z : Settings) (pixels : List ℕ) → Within sheet_lines (values_of z) → Among (picture_says z pixels)
unfolding Among convert_says
says-among z pixels w =
    let enough : 11 when ltb map_space (places z * (row z.mode).entry) ≡ 0 = rw (le-ltb map_space (places z * (row z.mode).entry) (map-fits z w)) in
    let known = when-among 1 (ltb 15 z.mode) tt in
    let mapped = when-among 2 (eqb z.mode pce-sprite) tt in
    let deep = when-among 3 (not (has_depth z.mode z.depth)) tt in
    let sized = when-among 4 (not (is_span z.columns && is_span z.rows)) tt in
    let flips = when-among 5 (z.flip && eqb (row z.mode).flips 0) tt in
    let whole = when-among 7 (not (eqb (length pixels) (64 * places z))) tt in
    let held = when-among (misfit_says (Some Palette)) (not (ltb z.palette (2 ^ (row z.mode).palette))) tt in
    let fits = subst Among (sym (palette-field z.mode z.palette)) held in
    let room = when-among 12 (ltb (picture_room z tile_space) (need_of 8 8 z pixels)) tt in
    first-among (convert_checks z pixels tile_space map_space)
    (known, (mapped, (deep, (sized, (flips, (whole, (fits, (subst Among (sym enough) tt, (room, tt)))))))))

-- "Program only, before all others: settings lines not as below": 14 exactly where no settings and pixels make the input a sheet
abbrev pub NoSheet : List ℕ → Type 0
NoSheet input = (z : Settings) (pixels : List ℕ) → IsSheet z pixels input → ⊥

wrong_case : (input : List ℕ) (t : Option Sheet) → sheet_in input ≡ t → NoSheet input → sheet_number input t ≡ 14
wrong_case input (Some t) e none = absurd (none t.settings (drop t.start input) (only-sheets input t.settings t.start e))
wrong_case input None e none = refl

told-case : (input : List ℕ) (t : Option Sheet) → sheet_in input ≡ t → sheet_number input t ≡ 11 → ⊥
unfolding Among
told-case input (Some t) e told =
    subst Among told (says-among t.settings (drop t.start input) (only-sheets input t.settings t.start e).settings)
told-case input None e told = eqb-false 14 11 refl told

module _ (input : List ℕ) where
  pub told-14 : NoSheet input → number_of input ≡ 14
  unfolding number_of
  told-14 none = wrong_case input (sheet_in input) refl none

  pub only-14 : number_of input ≡ 14 → NoSheet input
  unfolding Among number_of
  only-14 told z pixels sheet =
      let read = sheets-read z pixels input sheet in
      subst Among (sym (ap (sheet_number input) read) ∙ told) (says-among z _ sheet.settings)

  pub never-11 : number_of input ≡ 11 → ⊥
  unfolding number_of
  never-11 told = told-case input (sheet_in input) refl told

  -- and so the answer is 11 exactly where the text does not fit
  module _ {before : List ℕ} {r : Written} {after : List ℕ} (ran : Ran (number_of input) (text_of input) before r after) where
    pub unfit-11 : length before < length (text_of input) → r.refusal ≡ 11
    unfit-11 short = ⊎_elim (λ u. u.refusal) (λ w. let never : ⊥ = omega (arith, w.fits) in absurd never) (ran-leaves ran)

    pub only-unfit-11 : r.refusal ≡ 11 → length before < length (text_of input)
    only-unfit-11 e = ⊎_elim (λ u. u.short) (λ w. absurd (never-11 (sym w.refusal ∙ e))) (ran-leaves ran)

  -- with space enough it is the text's number
  module _ {before : List ℕ} {r : Written} {after : List ℕ} (ran : Ran (number_of input) (text_of input) before r after) (space : out_space ≤ length before) where
    answered : r.refusal ≡ number_of input
    answered = ap (λ (w : Written). w.refusal) (run-answers input before space ran)

    pub answered-14 : NoSheet input → r.refusal ≡ 14
    answered-14 none = answered ∙ told-14 none

    pub answered-only-14 : r.refusal ≡ 14 → NoSheet input
    answered-only-14 e = only-14 (sym answered ∙ e)

    pub answered-never-11 : r.refusal ≡ 11 → ⊥
    answered-never-11 e = never-11 (sym answered ∙ e)
