-- Whatever the input, the programs' buffers are enough: all of the text fits, and no input that is read is cut.
-- Assumes nothing.
use Prim.Native.Nat.{ℕ, zero, suc, ◌<◌, ◌≤◌}
use mathlib.Core.Path.{◌≡◌, refl, ap, ◌∙◌}
use mathlib.Core.List.{List, ◌++◌}
use mathlib.Core.Bool.{Bool, true, false}
use native.Mathlib.Omega.{arith}
use lib.Dec.{ltb}
use lib.ListN.{length, take, drop, length-append}
use lib.Seq.{length-take-le, take_all}
use borrow.Author.Tests.{le-ltb, ltb-true, ltb-false}
use Rattle.words.specs.Answers.{unless}
use Rattle.words.specs.declared.Written.{Written}
use Rattle.picture.specs.declared.Settings.{Settings}
use Rattle.picture.specs.Converting.{tile_bytes_of, map_bytes_of, answer_of}
use Rattle.picture.proofs.Laws.{bytes_fit}
use Rattle.sheet.specs.Sheet.{sheet_in}
use Rattle.sheet.specs.Report.{report_text, refused_text}
use Rattle.sheet.specs.Program.{tile_space, map_space, input_space, out_space, picture_says, picture_text, picture_tells, sheet_tells, number_of, text_of, fully, Ran}
use Rattle.sheet.specs.declared.Sheet.{Sheet}
use Rattle.std.specs.Prelude.{Option, Some, None}
use Rattle.sheet.proofs.Exact.{sheet-lines}
use Rattle.sheet.proofs.Lengths.{report-length, refused-length, longest}

-- the whole text
picture-case : (z : Settings) (pixels : List ℕ) (n : ℕ) → z.mode < 16 → picture_says z pixels ≡ n → length (unless n (picture_text z pixels) (refused_text n)) ≤ out_space
unfolding picture_text
picture-case z pixels zero known e =
    let report = report_text z (answer_of 0 z pixels) in
    let fit = bytes_fit z pixels tile_space map_space e in
    omega
    (arith, length-append (report ++ tile_bytes_of z pixels) (map_bytes_of z pixels), length-append report (tile_bytes_of z pixels), report-length z (answer_of 0 z pixels) known, fit.0, fit.1)
picture-case z pixels (suc n) known e = omega (arith, refused-length (suc n))

sheet-case : (input : List ℕ) (t : Option Sheet) → sheet_in input ≡ t → length (sheet_tells input t) ≤ out_space
unfolding picture_tells
sheet-case input (Some t) e =
    let b = (sheet-lines input t.settings t.start e).limits in
    picture-case t.settings (drop t.start input) (picture_says t.settings (drop t.start input)) (omega (arith, b.known)) refl
sheet-case input None e = omega (arith, refused-length 14)

pub text-fits : (input : List ℕ) → length (text_of input) ≤ out_space
unfolding text_of
text-fits input = sheet-case input (sheet_in input) refl

-- so every run over such a buffer is answered in full
pub run-answers : (input before : List ℕ) {r : Written} {after : List ℕ} → out_space ≤ length before → Ran (number_of input) (text_of input) before r after
    → r ≡ fully (number_of input) (length (text_of input))
run-answers input before space p =
    let fits : length (text_of input) ≤ length before = omega (arith, text-fits input) in
    p.answer ∙ rw (le-ltb (length before) (length (text_of input)) fits)

-- a buffer one byte longer than the longest sheet loses nothing: what is cut was not read either
long-case : (s : List ℕ) (t : Option Sheet) → sheet_in s ≡ t → input_space ≤ length s → t ≡ None
long-case s (Some t) e h =
    let no : ⊥ = omega (arith, longest s t.settings t.start e) in
    absurd no
long-case s None e h = refl

long-wrong : (s : List ℕ) → input_space ≤ length s → sheet_in s ≡ None
long-wrong s h = long-case s (sheet_in s) refl h

cut-case : (n : ℕ) (s : List ℕ) (b : Bool) → input_space ≤ n → ltb n (length s) ≡ b → text_of (take n s) ≡ text_of s
unfolding text_of
cut-case n s true h e =
    let more = ltb-true n (length s) e in
    let cut : length (take n s) ≡ n = length-take-le n s (omega arith) in
    rw (long-wrong s (omega arith), long-wrong (take n s) (omega arith))
cut-case n s false h e = ap text_of (take_all n s (ltb-false n (length s) e))

pub cut-alike : (n : ℕ) (s : List ℕ) → input_space ≤ n → text_of (take n s) ≡ text_of s
cut-alike n s h = cut-case n s (ltb n (length s)) h refl
