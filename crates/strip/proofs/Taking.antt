-- From a picture that went on to what a strip promises.
-- Assumes nothing.
use mathlib.Core.Path.{◌≡◌, refl, sym, ap, ◌∙◌, subst}
use mathlib.Core.List.{List}
use Prim.Native.Nat.{ℕ, ◌+◌, ◌*◌, ◌/◌, ◌<◌, ◌≤◌}
use native.Mathlib.Nat.{mul-le-mul}
use native.Mathlib.Omega.{arith}
use lib.ListN.{length}
use Rattle.std.specs.Prelude.{Result, Ok, Err}
use Rattle.std.specs.Result.{IsErrAnd}
use Rattle.words.specs.Answers.{unless}
use Rattle.words.specs.InnerResults.{refusal_number}
use Rattle.words.specs.declared.refusal.Refusal.{Refusal}
use Rattle.words.proofs.Answers.{when-done, when-refused}
use Rattle.words.proofs.Refusing.{refusal-not-done, passed_on}
use Rattle.picture.specs.Converting.{pictured}
use Rattle.picture.specs.Continuing.{unpacked_tiles, stored_after, discarded_after, GoesOn}
use Rattle.picture.specs.Inner.{CanGoOn, goes_on_says}
use Rattle.picture.specs.InnerResults.{picture_by}
use Rattle.picture.proofs.Checks.{IsSize}
use Rattle.picture.specs.declared.Settings.{Settings}
use Rattle.picture.specs.declared.Picture.{Picture}
use Rattle.picture.specs.declared.Counts.{Counts}
use Rattle.picture.proofs.Promised.{refused-on}
use Rattle.picture.proofs.Refusing.{picture-refused}
use Rattle.strip.specs.Strips.{settings_of, rows_of, row_length, strip_of, written_by, run_at, take_says, run_after, Takes, stepped}
use Rattle.strip.specs.Inner.{strip_says}
use Rattle.strip.specs.InnerResults.{step_by}
use Rattle.strip.specs.declared.Run.{Run}
use Rattle.strip.specs.declared.Step.{Step}
use Rattle.strip.proofs.Says.{take-strip, take-later, IsStrip, is-strip, settings-sized, rows-low, can-go-on}

module _ (r : Run) (pixels tiles map : List ℕ) where
  abbrev says : ℕ
  says = take_says r pixels tiles (length map)

  -- a check that counts no tiles refuses
  pub refused-asked : {p : Picture} (n : ℕ) → n ≡ strip_says r (length pixels) (length tiles) (length map) → (n ≡ 0 → ⊥) → p ≡ pictured n 0 0 0 0
      → Takes says r pixels tiles map (stepped p r) tiles map
  refused-asked n e h a =
      let told = take-strip r pixels tiles (length map) n e h in
      record { converts = refused-on n told h a; run = sym (when-refused says (run_after r pixels tiles) r (λ z. h (told ∙ z))) }

  -- the picture went on by the strip's rows
  module _ {z : Settings} {p : Picture} {tiles_after map_after : List ℕ} (passed : strip_says r (length pixels) (length tiles) (length map) ≡ 0) (is : z ≡ strip_of r pixels)
      (went : GoesOn (goes_on_says z pixels (unpacked_tiles z tiles r.tiles) r.discarded (length tiles)) z pixels (unpacked_tiles z tiles r.tiles)
      r.discarded (r.taken * r.columns) tiles map p tiles_after map_after) where
    abbrev Went : ℕ → Type 0
    Went n = GoesOn n (strip_of r pixels) pixels (written_by r tiles) r.discarded (r.taken * r.columns) tiles map p tiles_after map_after

    said : Went says
    said =
        subst Went (sym (take-later r pixels tiles (length map) passed))
        (subst
        (λ (z : Settings).
        GoesOn (goes_on_says z pixels (unpacked_tiles z tiles r.tiles) r.discarded (length tiles)) z pixels (unpacked_tiles z tiles r.tiles)
        r.discarded (r.taken * r.columns) tiles map p tiles_after map_after) is went)

    number : p.refusal ≡ says
    number = ap (λ (p : Picture). p.refusal) said.answer

    pub strip-refused : (p.refusal ≡ 0 → ⊥) → Takes says r pixels tiles map (stepped p r) tiles_after map_after
    strip-refused h = record { converts = said; run = sym (when-refused says (run_after r pixels tiles) r (λ z. h (number ∙ z))) }

    pub strip-taken : {next : Run} → p.refusal ≡ 0 → next ≡ run_at (settings_of r) (r.taken + length pixels / row_length r) p.tiles p.discarded
        → Takes says r pixels tiles map (stepped p next) tiles_after map_after
    strip-taken {next} e n =
        let done : says ≡ 0 = sym number ∙ e in
        let taken = r.taken + length pixels / row_length r in
        let stored = length (stored_after (strip_of r pixels) pixels (written_by r tiles)) in
        let discarded = r.discarded + discarded_after (strip_of r pixels) pixels (written_by r tiles) in
        record {
          converts = said;
          run =
              n ∙ ap (λ (p : Picture). run_at (settings_of r) taken p.tiles p.discarded) said.answer
              ∙ ap (λ (k : ℕ). run_at (settings_of r) taken (unless k stored 0) (unless k discarded 0)) done
              ∙ sym (when-done says (run_after r pixels tiles) r done);
        }

  -- what the picture promised, by the settings as a value
  abbrev Went_on : Settings → Result Counts Refusal → List ℕ → List ℕ → Type 0
  Went_on y g tiles_after map_after =
      let z = rows_of y (length pixels / row_length r) in
      GoesOn (goes_on_says z pixels (unpacked_tiles z tiles r.tiles) r.discarded (length tiles)) z pixels (unpacked_tiles z tiles r.tiles)
      r.discarded (r.taken * r.columns) tiles map (picture_by g) tiles_after map_after

  rows-is : {y : Settings} → y ≡ settings_of r → rows_of y (length pixels / row_length r) ≡ strip_of r pixels
  rows-is e = ap (λ (z : Settings). rows_of z (length pixels / row_length r)) e

  -- as results
  module _ (x : Result Step Refusal) (e : Refusal) (same : IsErrAnd x (λ f. f ≡ e)) where
    stays : step_by r x ≡ stepped (picture_by (Err e)) r
    stays = ap (step_by r) (passed_on x e same)

    -- a check that counts no tiles refuses
    pub asked_refused : refusal_number e ≡ strip_says r (length pixels) (length tiles) (length map) → Takes says r pixels tiles map (step_by r x) tiles map
    asked_refused is = rw stays (refused-asked (refusal_number e) is (refusal-not-done e) (picture-refused e))

    -- the picture that goes on does
    pub step_refused : {y : Settings} {tiles_after map_after : List ℕ} → y ≡ settings_of r → strip_says r (length pixels) (length tiles) (length map) ≡ 0
        → Went_on y (Err e) tiles_after map_after → Takes says r pixels tiles map (step_by r x) tiles_after map_after
    step_refused is passed went = rw stays (strip-refused passed (rows-is is) went (refusal-not-done e))

  -- it goes on
  pub step_taken : (k : Counts) {y : Settings} {tiles_after map_after : List ℕ} → y ≡ settings_of r → strip_says r (length pixels) (length tiles) (length map) ≡ 0
      → Went_on y (Ok k) tiles_after map_after
      → Takes says r pixels tiles map (stepped (picture_by (Ok k)) (run_at (settings_of r) (r.taken + length pixels / row_length r) k.tiles k.discarded)) tiles_after map_after
  step_taken k is passed went = strip-taken passed (rows-is is) went refl refl

  -- what a strip asks of its numbers and of the picture, once they passed
  module _ (passed : strip_says r (length pixels) (length tiles) (length map) ≡ 0) where
    strip : IsStrip r (length pixels) (length tiles) (length map)
    strip = is-strip r (length pixels) (length tiles) (length map) passed

    size : IsSize r.mode r.depth r.columns r.rows
    size = settings-sized (settings_of r) strip.settings

    pub row_some : 0 < 64 * r.columns
    row_some = omega (arith, size.some)

    pub row_low : 64 * r.columns ≤ 4096
    row_low = omega (arith, size.narrow)

    pub rows_low : r.taken + length pixels / (64 * r.columns) ≤ 64
    rows_low = omega (arith, rows-low strip, size.low)

    pub entries_low : r.taken * r.columns ≤ 4096
    entries_low = mul-le-mul {n₁ = r.taken} {m₁ = r.columns} {n₂ = 64} {m₂ = 64} (omega (arith, strip.taken, size.low)) size.narrow

    pub goes_on : {y : Settings} → y ≡ settings_of r
        → CanGoOn (rows_of y (length pixels / row_length r)) r.tiles (r.taken * r.columns) (length pixels) (length tiles) (length map)
    goes_on is = rw is (can-go-on strip)

pub ruleset take_rules = (row_some, row_low, rows_low, entries_low)
