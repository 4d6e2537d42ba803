-- From a conversion to what the program tells of it.
-- Assumes nothing.
use Prim.Native.Nat.{ℕ, ◌-◌, ◌≤◌, ◌<◌}
use mathlib.Core.Path.{◌≡◌, refl, sym, ap, ◌∙◌, subst}
use mathlib.Core.List.{List, ◌++◌}
use mathlib.Core.Bool.{Bool, true, false, cond}
use mathlib.Core.Logic.{◌⊎◌, inl, inr, ⊎_elim}
use native.Mathlib.Omega.{arith}
use lib.Dec.{ltb}
use lib.ListN.{length, take, drop, replicate, length-append, length-replicate}
use lib.Seq.{take-append_seam, drop-append_seam}
use borrow.Author.Tests.{ltb-true, ltb-false}
use Rattle.words.specs.Answers.{written, overwrite}
use Rattle.words.specs.declared.Written.{Written}
use Rattle.words.proofs.Answers.{when-done, when-refused}
use Rattle.picture.specs.declared.Settings.{Settings}
use Rattle.picture.specs.declared.Counts.{Counts}
use Rattle.picture.specs.declared.Picture.{Picture}
use Rattle.picture.specs.Converting.{convert_says, answer_of, tile_bytes_of, map_bytes_of, Converts}
use Rattle.sheet.specs.Sheet.{sheet, sheet_in}
use Rattle.sheet.specs.Report.{report_text, refused_text}
use Rattle.sheet.specs.Inner.{Tellable}
use Rattle.std.specs.Prelude.{Some, None}
use Rattle.sheet.specs.Program.{tile_space, map_space, picture_says, picture_text, picture_tells, number_of, text_of, fully, Ran}
use Rattle.sheet.proofs.Reading.{rest_all}

-- bytes that stand at the start of a buffer are found there
module _ (bytes before : List ℕ) {after : List ℕ} {n : ℕ} (size : n ≡ length bytes) (e : after ≡ overwrite before bytes) where
  found : take n after ≡ bytes
  found = rw (size, e) (take-append_seam bytes (drop (length bytes) before))

  inside : n ≤ length after
  inside = rw (size, e) (omega (arith, length-append bytes (drop (length bytes) before)))

-- the program's own buffers
pub own-buffers : (z : Settings) (pixels : List ℕ) → convert_says z pixels (length {A = ℕ} (replicate tile_space 0)) (length {A = ℕ} (replicate map_space 0)) ≡ picture_says z pixels
own-buffers z pixels = rw (length-replicate {A = ℕ} tile_space 0, length-replicate {A = ℕ} map_space 0)

pub tellable : (z : Settings) (k : Counts) (tiles map : List ℕ) → z.mode < 16 → length tiles ≡ tile_space → length map ≡ map_space → k.tile_bytes ≤ length tiles
    → k.map_bytes ≤ length map
    → Tellable z k
tellable z k tiles map known t m ht hm = record { known = known; tile_length = omega arith; map_length = omega arith }

-- n is the number that the conversion says
module _ {n : ℕ} {z : Settings} {pixels tiles map : List ℕ} {p : Picture} {tiles_after map_after : List ℕ} (c : Converts n z pixels tiles map p tiles_after map_after) where
  said : p.refusal ≡ n
  said = ap (λ (q : Picture). q.refusal) c.answer

  module _ (done : p.refusal ≡ 0) where
    none : n ≡ 0
    none = sym said ∙ done

    answered : p ≡ answer_of 0 z pixels
    answered = c.answer ∙ ap (λ (k : ℕ). answer_of k z pixels) none

    tile-length : p.tile_bytes ≡ length (tile_bytes_of z pixels)
    tile-length = ap (λ (q : Picture). q.tile_bytes) answered

    map-length : p.map_bytes ≡ length (map_bytes_of z pixels)
    map-length = ap (λ (q : Picture). q.map_bytes) answered

    tile-lent : tiles_after ≡ overwrite tiles (tile_bytes_of z pixels)
    tile-lent = c.lent ∙ when-done n (overwrite tiles (tile_bytes_of z pixels)) tiles none

    map-lent : map_after ≡ overwrite map (map_bytes_of z pixels)
    map-lent = c.also_lent ∙ when-done n (overwrite map (map_bytes_of z pixels)) map none

    pub tiles-inside : p.tile_bytes ≤ length tiles_after
    tiles-inside = inside (tile_bytes_of z pixels) tiles tile-length tile-lent

    pub map-inside : p.map_bytes ≤ length map_after
    map-inside = inside (map_bytes_of z pixels) map map-length map-lent

    same_text : report_text z p ++ take p.tile_bytes tiles_after ++ take p.map_bytes map_after ≡ picture_text z pixels
    unfolding picture_text
    same_text =
        rw (found (tile_bytes_of z pixels) tiles tile-length tile-lent, found (map_bytes_of z pixels) map map-length map-lent)
        (ap (λ (q : Picture). report_text z q ++ tile_bytes_of z pixels ++ map_bytes_of z pixels) answered)

  module _ (due : n ≡ picture_says z pixels) {before : List ℕ} {r : Written} {after : List ℕ} where
    pub refused-picture : (p.refusal ≡ 0 → ⊥) → Ran p.refusal (refused_text p.refusal) before r after
        → Ran (picture_says z pixels) (picture_tells z pixels) before r after
    unfolding picture_tells
    refused-picture h ran =
        rw (when-refused (picture_says z pixels) (picture_text z pixels) (refused_text (picture_says z pixels)) (λ e. h (said ∙ due ∙ e)), ← due, ← said) ran

    pub told-picture : (done : p.refusal ≡ 0) {lines : List ℕ} → lines ≡ report_text z p → Ran 0 (lines ++ take p.tile_bytes tiles_after ++ take p.map_bytes map_after) before r after
        → Ran (picture_says z pixels) (picture_tells z pixels) before r after
    unfolding picture_tells
    told-picture done e ran =
        rw (sym due ∙ none done) (subst (λ (l : List ℕ). Ran 0 l before r after) (same_text done) (rw e at ran))

-- from a sheet to the program
module _ (input : List ℕ) {before : List ℕ} {r : Written} {after : List ℕ} where
  pub ran-read : {z : Settings} {at : ℕ} → sheet_in input ≡ Some (sheet z at)
      → Ran (picture_says z (take (length input - at) (drop at input))) (picture_tells z (take (length input - at) (drop at input))) before r after
      → Ran (number_of input) (text_of input) before r after
  unfolding number_of text_of
  ran-read {z} {at} e ran = rw e (subst (λ (l : List ℕ). Ran (picture_says z l) (picture_tells z l) before r after) (rest_all input at) ran)

  pub ran-wrong : sheet_in input ≡ None → Ran 14 (refused_text 14) before r after → Ran (number_of input) (text_of input) before r after
  unfolding number_of text_of
  ran-wrong e ran = rw e ran

-- What a run leaves: where the text does not fit, 11, 0 and the bytes as they were; otherwise its number, the text and then the bytes as they were.
pub record Unfit (text before : List ℕ) (r : Written) (after : List ℕ) : Type 0 where
  pub short : length before < length text
  pub refusal : r.refusal ≡ 11
  pub none : r.written ≡ 0
  pub untouched : after ≡ before

pub record Whole (n : ℕ) (text before : List ℕ) (r : Written) (after : List ℕ) : Type 0 where
  pub fits : length text ≤ length before
  pub refusal : r.refusal ≡ n
  pub all : r.written ≡ length text
  pub front : take (length text) after ≡ text
  pub behind : drop (length text) after ≡ drop (length text) before

module _ {n : ℕ} {text before : List ℕ} {r : Written} {after : List ℕ} where
  leaves-case : (b : Bool) → ltb (length before) (length text) ≡ b → r ≡ cond b (written 11 0) (fully n (length text)) → after ≡ cond b before (overwrite before text)
      → Unfit text before r after ⊎ Whole n text before r after
  leaves-case true t e l =
      inl (record { short = ltb-true (length before) (length text) t; refusal = ap (λ (w : Written). w.refusal) e; none = ap (λ (w : Written). w.written) e; untouched = l })
  leaves-case false t e l =
      inr
      (record {
        fits = ltb-false (length before) (length text) t;
        refusal = ap (λ (w : Written). w.refusal) e;
        all = ap (λ (w : Written). w.written) e;
        front = rw l (take-append_seam text (drop (length text) before));
        behind = rw l (drop-append_seam text (drop (length text) before));
      })

  pub ran-leaves : Ran n text before r after → Unfit text before r after ⊎ Whole n text before r after
  ran-leaves p = leaves-case (ltb (length before) (length text)) refl p.answer p.lent

  -- what is written lies inside the lent bytes
  pub ran-inside : Ran n text before r after → r.written ≤ length before
  ran-inside p = ⊎_elim (λ u. omega (arith, u.none)) (λ w. omega (arith, w.all, w.fits)) (ran-leaves p)
