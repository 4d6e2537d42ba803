-- How long at most all that is written is: a number, a line, a sheet, a report.
-- Assumes nothing.
use Prim.Native.Nat.{ℕ, zero, suc, ◌+◌, ◌*◌, ◌/◌, ◌%◌, ◌<◌, ◌≤◌}
use mathlib.Core.Path.{◌≡◌, refl}
use mathlib.Core.List.{List, [], ◌∷◌, ◌++◌}
use mathlib.Core.Bool.{Bool, true, false, cond}
use native.Mathlib.Omega.{arith}
use lib.Dec.{T, ltb}
use lib.ListN.{length, get_or, length-append}
use borrow.Author.Tests.{ltb-true, ltb-false}
use Rattle.std.specs.Prelude.{Some}
use Rattle.words.specs.Loops.{each}
use Rattle.words.proofs.Loops.{both_left, both_right}
use Rattle.mode.specs.Names.{name_of}
use Rattle.picture.specs.declared.Settings.{Settings}
use Rattle.picture.specs.declared.Picture.{Picture}
use Rattle.sheet.specs.Keys.{key_of, line_of, is_name}
use Rattle.sheet.specs.declared.keys.Key.{Key}
use Rattle.sheet.specs.declared.keys.Key.TheVariants.{Mode, Depth, Refused}
use Rattle.sheet.specs.Numbers.{digits_of, decimal}
use Rattle.sheet.specs.Sheet.{sheet_lines, values_of, sheet, sheet_in, text_for, lines_text, sheet_text, Within}
use Rattle.sheet.specs.Report.{report_keys, report_values, number_line, report_text, refused_text}
use Rattle.sheet.specs.Program.{input_space}
use Rattle.sheet.specs.Inner.{text_most, line_most, report_most}
use Rattle.sheet.specs.declared.Line.{Line}
use Rattle.sheet.proofs.Lines.{is_line, are_lines, mode-top, eight-lines, area_small}
use Rattle.sheet.proofs.ByKey.{key-length}
use Rattle.sheet.proofs.Writing.{digits-most, name-length}
use Rattle.sheet.proofs.Exact.{sheet-lines, all-size, pixels-start}

-- a larger number has no fewer digits, and ten are the most
rise-case : (n m : ℕ) (a b : List ℕ) (t u : Bool) → ltb n 10 ≡ t → ltb m 10 ≡ u → n ≤ m → length a ≤ length b
    → length (cond t ((48 + n) ∷ []) (a ++ (48 + n % 10) ∷ [])) ≤ length (cond u ((48 + m) ∷ []) (b ++ (48 + m % 10) ∷ []))
rise-case n m a b true true p q h l = omega arith
rise-case n m a b true false p q h l = omega (arith, length-append b ((48 + m % 10) ∷ []))
rise-case n m a b false true p q h l =
    let no : ⊥ = omega (arith, ltb-false n 10 p, ltb-true m 10 q) in
    absurd no
rise-case n m a b false false p q h l = omega (arith, length-append a ((48 + n % 10) ∷ []), length-append b ((48 + m % 10) ∷ []))

digits-rise : (k n m : ℕ) → n ≤ m → length (digits_of k n) ≤ length (digits_of k m)
unfolding digits_of
digits-rise zero n m h = omega arith
digits-rise (suc k) n m h = rise-case n m (digits_of k (n / 10)) (digits_of k (m / 10)) (ltb n 10) (ltb m 10) refl refl h (digits-rise k (n / 10) (m / 10) (omega arith))

line-size : (k : Key) (b : ℕ) (text : List ℕ) → length text ≤ b → length (line_of k text) ≤ length (key_of k) + b + 1
unfolding line_of
line-size k b text h = simp length-append (omega arith)

-- lines within their limits, and so the longest sheet
abbrev text_long : Line → Bool → ℕ
text_long l named = cond named text_most (length (decimal l.top))

abbrev lines_long : List Line → ℕ
lines_long [] = 0
lines_long (l ∷ ls) = length (key_of l.key) + text_long l (is_name l.key) + 1 + lines_long ls

text-case : (l : Line) → T (is_line l) → (v : ℕ) → v ≤ l.top → (named : Bool) → is_name l.key ≡ named → length (cond named (name_of v) (decimal v)) ≤ text_long l named
text-case l t v h true e = name-length v (omega (arith, mode-top l t e))
text-case l t v h false e = digits-rise 10 v l.top h

lines_long_lem : (ls : List Line) → T (are_lines ls) → (us : List ℕ) → Within ls us → length (lines_text ls us) ≤ lines_long ls
unfolding lines_text text_for
lines_long_lem [] t [] w = omega arith
lines_long_lem [] t (u ∷ us) w = absurd w
lines_long_lem (l ∷ ls) t [] w = absurd w
lines_long_lem (l ∷ ls) t (u ∷ us) w =
    let text = text_for l u in
    let long = text-case l (both_left (is_line l) (are_lines ls) t) u w.0 (is_name l.key) refl in
    omega
    (arith, length-append (line_of l.key text) (lines_text ls us), line-size l.key (text_long l (is_name l.key)) text long, lines_long_lem ls (both_right (is_line l) (are_lines ls) t) us w.1)

sheet-length : (z : Settings) → Within sheet_lines (values_of z) → length (sheet_text z) ≤ 105
unfolding sheet_text sheet_lines key_of digits_of
sheet-length z w = lines_long_lem sheet_lines eight-lines (values_of z) w

pub longest : (s : List ℕ) (z : Settings) (at : ℕ) → sheet_in s ≡ Some (sheet z at) → length s < input_space
longest s z at e =
    let w = (sheet-lines s z at e).settings in
    omega (arith, all-size s z at e, pixels-start s z at e, sheet-length z w, area_small (sheet-lines s z at e).limits)

-- the report's lines
numbers-length : (values : List ℕ) (n : ℕ) → n ≤ length report_keys → length (each n (number_line values)) ≤ n * line_most
unfolding number_line
numbers-length values zero h = omega arith
numbers-length values (suc n) h =
    let k = get_or report_keys n Depth in
    let text = decimal (get_or values n 0) in
    omega
    (arith, length-append (each n (number_line values)) (line_of k text), numbers-length values n (omega arith), line-size k 10 text (digits-most 10 (get_or values n 0)), key-length k)

pub report-length : (z : Settings) (p : Picture) → z.mode < 16 → length (report_text z p) ≤ report_most
unfolding report_text
report-length z p known =
    let name = name_of z.mode in
    let numbers = each (length report_keys) (number_line (report_values z p)) in
    omega
    (arith, length-append (line_of Mode name) numbers, numbers-length (report_values z p) (length report_keys) (omega arith), line-size Mode text_most name (name-length z.mode known), key-length Mode)

pub refused-length : (n : ℕ) → length (refused_text n) ≤ line_most
unfolding refused_text
refused-length n = omega (arith, line-size Refused 10 (decimal n) (digits-most 10 n), key-length Refused)
