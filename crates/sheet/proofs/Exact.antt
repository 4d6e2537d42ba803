-- None else is read: an input that is read begins with the text that its settings are written as.
-- Assumes nothing.
use Prim.Native.Nat.{ℕ, zero, suc, ◌+◌, ◌*◌, ◌-◌, ◌/◌, ◌%◌, ◌^◌, ◌<◌, ◌≤◌}
use mathlib.Core.Path.{◌≡◌, refl, sym, ap, ◌∙◌, subst}
use mathlib.Core.List.{List, [], ◌∷◌, ◌++◌, append_assoc, append-nil}
use mathlib.Core.Bool.{Bool, true, false, cond}
use native.Mathlib.Nat.{pow-suc, not-suc-le-zero}
use native.Mathlib.Numerals.{add-one}
use native.Mathlib.Omega.{arith}
use lib.Dec.{T, leb, ltb, eqb}
use lib.ListN.{length, get_or, take, drop, length-drop, take-append-drop}
use lib.Seq.{length-take-le, append_snoc, take-suc, take-add}
use borrow.Author.Tests.{lt-ltb, le-ltb, ltb-true, ltb-false, leb-true, eqb-true, eqb-false}
use Rattle.words.specs.Bytes.{bit, same}
use Rattle.words.specs.Loops.{each}
use Rattle.words.proofs.Bytes.{same-eq}
use Rattle.words.proofs.Filling.{each_of}
use Rattle.words.proofs.Loops.{both_left, both_right}
use Rattle.mode.specs.Names.{name_of, named_from, mode_named}
use Rattle.picture.specs.declared.Settings.{Settings}
use Rattle.sheet.specs.Keys.{key_of, line_of, is_name}
use Rattle.sheet.specs.Numbers.{largest, digits_of, decimal, digits_from, number_in, at_most}
use Rattle.sheet.specs.Sheet.{sheet_lines, mode_told, text_says, line_says, line_length, Lines, Numbers, NoLines, lines_then, lines_from, settings_of, values_of, sheet, sheet_of, lines_in, with_pixels, sheet_in, text_for, lines_text, sheet_text, Within, IsSheet}
use Rattle.sheet.specs.declared.Line.{Line}
use Rattle.std.specs.Prelude.{Option, Some, None}
use Rattle.sheet.specs.declared.Sheet.{Sheet}
use Rattle.sheet.proofs.Lines.{is_line, are_lines, mode-top, eight-lines, Bounded, bounded}
use Rattle.sheet.proofs.Trips.{sheet-back}

-- a name's mode is one of the sixteen
named-case : (s : List ℕ) (m k v : ℕ) (b : Bool) → (named_from s (m + 1) k ≡ Some v → v < m + 1 + k) → cond b (Some m) (named_from s (m + 1) k) ≡ Some v → v < m + suc k
named-case s m k v true ih e =
    let here : m ≡ v = cc in
    omega arith
named-case s m k v false ih e = omega (arith, ih e)

named_small : (s : List ℕ) (m k v : ℕ) → named_from s m k ≡ Some v → v < m + k
named_small s m zero v e = cc
named_small s m (suc k) v e = named-case s m k v (same s (name_of m)) (named_small s (m + 1) k v) e

-- a number is at most the largest
most-case : (top n v : ℕ) (b : Bool) → leb n top ≡ b → cond b (Some n) None ≡ Some v → v ≤ top
most-case top n v true t e =
    let same : n ≡ v = cc in
    omega (arith, leb-true n top t)
most-case top n v false t e = cc

most-small : (top v : ℕ) (t : Option ℕ) → at_most top t ≡ Some v → v ≤ top
most-small top v (Some n) e = most-case top n v (leb n top) refl e
most-small top v None e = cc

-- as many digits as are enough, and no more
fuel-case : (n : ℕ) (a b : List ℕ) (t : Bool) → (t ≡ false → a ≡ b) → cond t ((48 + n) ∷ []) (a ++ (48 + n % 10) ∷ []) ≡ cond t ((48 + n) ∷ []) (b ++ (48 + n % 10) ∷ [])
fuel-case n a b true e = refl
fuel-case n a b false e = rw (e refl)

fuel : (j k n : ℕ) → 0 < n → n < 10 ^ j → n < 10 ^ k → digits_of j n ≡ digits_of k n
unfolding digits_of
fuel zero k n some hj hk =
    let no : ⊥ = omega arith in
    absurd no
fuel (suc j) zero n some hj hk =
    let no : ⊥ = omega arith in
    absurd no
fuel (suc j) (suc k) n some hj hk =
    fuel-case n (digits_of j (n / 10)) (digits_of k (n / 10)) (ltb n 10)
    (λ e. fuel j k (n / 10) (omega (arith, ltb-false n 10 e)) (omega (arith, pow-suc 10 j)) (omega (arith, pow-suc 10 k)))

-- a digit that was read
skip-left : (t : Bool) (x : Option ℕ) (v : ℕ) → cond t None x ≡ Some v → t ≡ false
skip-left true x v e = cc
skip-left false x v e = refl

skip-right : (t : Bool) (x : Option ℕ) (v : ℕ) → cond t None x ≡ Some v → x ≡ Some v
skip-right true x v e = cc
skip-right false x v e = e

record Digit (b : ℕ) (bs : List ℕ) (n v : ℕ) : Type 0 where
  low : 48 ≤ b
  high : b ≤ 57
  fits : n * 10 + (b - 48) ≤ largest
  more : digits_from bs (n * 10 + (b - 48)) ≡ Some v

digit-was : (b : ℕ) (bs : List ℕ) (n v : ℕ) → digits_from (b ∷ bs) n ≡ Some v → Digit b bs n v
unfolding digits_from
digit-was b bs n v e =
    let last = digits_from bs (n * 10 + (b - 48)) in
    let third = cond (ltb largest (n * 10 + (b - 48))) None last in
    let second = cond (ltb 57 b) None third in
    let e₂ = skip-right (ltb b 48) second v e in
    let e₃ = skip-right (ltb 57 b) third v e₂ in
    record {
      low = ltb-false b 48 (skip-left (ltb b 48) second v e);
      high = ltb-false 57 b (skip-left (ltb 57 b) third v e₂);
      fits = ltb-false largest (n * 10 + (b - 48)) (skip-left (ltb largest (n * 10 + (b - 48))) last v e₃);
      more = skip-right (ltb largest (n * 10 + (b - 48))) last v e₃;
    }

-- digits that were read after those of n are, with them, the digits of what they tell
next-digit : (j n b : ℕ) (p : List ℕ) → 0 < n → 48 ≤ b → b ≤ 57 → p ≡ digits_of j n → p ++ b ∷ [] ≡ digits_of (suc j) (n * 10 + (b - 48))
unfolding digits_of
next-digit j n b p some low high e =
    let tens : 10 ≤ n * 10 + (b - 48) = omega arith in
    let above : (n * 10 + (b - 48)) / 10 ≡ n = omega arith in
    let below : 48 + (n * 10 + (b - 48)) % 10 ≡ b = omega arith in
    rw (le-ltb (n * 10 + (b - 48)) 10 tens, above, below, e)

digits-only : (bs p : List ℕ) (j n v : ℕ) → 0 < n → n ≤ largest → n < 10 ^ j → p ≡ digits_of j n → digits_from bs n ≡ Some v → p ++ bs ≡ decimal v
unfolding digits_from
digits-only [] p j n v some small fits e told =
    let same : n ≡ v = cc in
    append-nil p ∙ e ∙ fuel j 10 n some fits (omega arith) ∙ ap decimal same
digits-only (b ∷ bs) p j n v some small fits e told =
    let d = digit-was b bs n v told in
    sym (append_snoc p b bs)
    ∙ digits-only bs (p ++ b ∷ []) (suc j) (n * 10 + (b - 48)) v (omega arith) d.fits (omega (arith, pow-suc 10 j, d.low, d.high)) (next-digit j n b p some d.low d.high e) d.more

first-only : (b : ℕ) (bs : List ℕ) (v : ℕ) → (b ≡ 48 → ⊥) → digits_from (b ∷ bs) 0 ≡ Some v → b ∷ bs ≡ decimal v
unfolding digits_of
first-only b bs v other told =
    let d = digit-was b bs 0 v told in
    let some : 0 < 0 * 10 + (b - 48) = omega (arith, d.low, other) in
    let few : 0 * 10 + (b - 48) < 10 = omega (arith, d.high) in
    let back : 48 + (0 * 10 + (b - 48)) ≡ b = omega (arith, d.low) in
    digits-only bs (b ∷ []) 1 (0 * 10 + (b - 48)) v some d.fits (omega arith) (rw (lt-ltb (0 * 10 + (b - 48)) 10 few, back)) d.more

none_left : (bs : List ℕ) → length bs ≡ 0 → bs ≡ []
none_left [] e = refl
none_left (b ∷ bs) e =
    let no : ⊥ = omega arith in
    absurd no

number-case : (b : ℕ) (bs : List ℕ) (v : ℕ) (zero? one? : Bool) → eqb b 48 ≡ zero? → eqb (length (b ∷ bs)) 1 ≡ one?
    → cond zero? (cond one? (Some 0) None) (digits_from (b ∷ bs) 0) ≡ Some v → b ∷ bs ≡ decimal v
unfolding digits_of
number-case b bs v true true z o e =
    let byte : b ≡ 48 = eqb-true b 48 z in
    let alone : length bs ≡ 0 = omega (arith, eqb-true (length (b ∷ bs)) 1 o) in
    let same : 0 ≡ v = cc in
    rw (byte, none_left bs alone, ← same)
number-case b bs v true false z o e = cc
number-case b bs v false one? z o e = first-only b bs v (eqb-false b 48 z) e

number-only : (s : List ℕ) (v : ℕ) → number_in s ≡ Some v → s ≡ decimal v
unfolding number_in
number-only [] v e = cc
number-only (b ∷ bs) v e =
    number-case b bs v (eqb b 48) (eqb (length (b ∷ bs)) 1) refl refl
    (skip-right (eqb (length (b ∷ bs)) 0) (cond (eqb b 48) (cond (eqb (length (b ∷ bs)) 1) (Some 0) None) (digits_from (b ∷ bs) 0)) v e)

-- a name that was read
true-T : (t : Bool) → t ≡ true → T t
true-T t e = subst T (sym e) tt

name-case : (s : List ℕ) (m v : ℕ) (more : Option ℕ) (t : Bool) → same s (name_of m) ≡ t → (more ≡ Some v → s ≡ name_of v) → cond t (Some m) more ≡ Some v → s ≡ name_of v
name-case s m v more true h ih e =
    let here : m ≡ v = cc in
    same-eq s (name_of m) (true-T (same s (name_of m)) h) ∙ ap name_of here
name-case s m v more false h ih e = ih e

name-only : (s : List ℕ) (m k v : ℕ) → named_from s m k ≡ Some v → s ≡ name_of v
name-only s m zero v e = cc
name-only s m (suc k) v e = name-case s m v (named_from s (m + 1) k) (same s (name_of m)) refl (name-only s (m + 1) k v) e

-- a line that was read: its text, and its number
most-only : (top v n : ℕ) (t : Bool) → cond t (Some n) None ≡ Some v → Some n ≡ Some v
most-only top v n true e = e
most-only top v n false e = cc

number-was : (top v : ℕ) (t : Option ℕ) → at_most top t ≡ Some v → t ≡ Some v
number-was top v (Some n) e = most-only top v n (leb n top) e
number-was top v None e = e

module _ (l : Line) (v : ℕ) where
  word-case : (text : List ℕ) (by_name : Bool) → cond by_name (mode_told (mode_named text)) (at_most l.top (number_in text)) ≡ Some v → text ≡ cond by_name (name_of v) (decimal v)
  word-case text true e = name-only text 0 16 v e
  word-case text false e = number-only text v (number-was l.top v (number_in text) e)

  small-case : T (is_line l) → (text : List ℕ) (by_name : Bool) → is_name l.key ≡ by_name → cond by_name (mode_told (mode_named text)) (at_most l.top (number_in text)) ≡ Some v → v ≤ l.top
  small-case t text true n e = omega (arith, mode-top l t n, named_small text 0 16 v e)
  small-case t text false n e = most-small l.top v (number_in text) e

  line-case : (bytes : List ℕ) (t : Bool) → same (take (length (key_of l.key)) bytes) (key_of l.key) ≡ t
      → cond t (text_says l (drop (length (key_of l.key)) bytes)) None ≡ Some v → (bytes ≡ key_of l.key ++ text_for l v) × (T (is_line l) → v ≤ l.top)
  unfolding text_says text_for
  line-case bytes true h e =
      let n = length (key_of l.key) in (
        sym (take-append-drop n bytes)
            ∙ ap (λ (x : List ℕ). x ++ drop n bytes) (same-eq (take n bytes) (key_of l.key) (true-T (same (take n bytes) (key_of l.key)) h))
            ∙ ap (λ (x : List ℕ). key_of l.key ++ x) (word-case (drop n bytes) (is_name l.key) e),
        λ t. small-case t (drop n bytes) (is_name l.key) refl e,
      )
  line-case bytes false h e = cc

  line-only : (bytes : List ℕ) → line_says l bytes ≡ Some v → (bytes ≡ key_of l.key ++ text_for l v) × (T (is_line l) → v ≤ l.top)
  unfolding line_says
  line-only bytes e = line-case bytes (same (take (length (key_of l.key)) bytes) (key_of l.key)) refl e

-- where a line ends, a newline stands
newline-case : (b : ℕ) (bs : List ℕ) (t : Bool) → eqb b 10 ≡ t → (line_length bs < length bs → get_or bs (line_length bs) 0 ≡ 10)
    → cond t 0 (1 + line_length bs) < suc (length bs) → get_or (b ∷ bs) (cond t 0 (1 + line_length bs)) 0 ≡ 10
newline-case b bs true h ih l = eqb-true b 10 h
newline-case b bs false h ih l =
    let next : 1 + line_length bs ≡ suc (line_length bs) = omega arith in
    rw next (ih (omega arith))

newline-at : (s : List ℕ) → line_length s < length s → get_or s (line_length s) 0 ≡ 10
unfolding line_length
newline-at [] l = absurd (not-suc-le-zero l)
newline-at (b ∷ bs) l = newline-case b bs (eqb b 10) refl (newline-at bs) l

whole-line : (l : Line) (v : ℕ) (rest : List ℕ) → line_length rest < length rest → line_says l (take (line_length rest) rest) ≡ Some v
    → take (line_length rest + 1) rest ≡ line_of l.key (text_for l v)
unfolding line_of
whole-line l v rest h e =
    rw (add-one (line_length rest), take-suc rest (line_length rest) 0 h, newline-at rest h, (line-only l v (take (line_length rest) rest) e).0)

-- what was read from a place on, with vs before it: the numbers, and their text
record Were (ls : List Line) (s ws : List ℕ) (to : ℕ) (vs : List ℕ) (at : ℕ) : Type 0 where
  values : List ℕ
  all : ws ≡ vs ++ values
  within : Within ls values
  text : take to s ≡ take at s ++ lines_text ls values
  inside : to ≤ length s

cond-true : (b : Bool) (x : Lines) (ws : List ℕ) (to : ℕ) → cond b x NoLines ≡ Numbers ws to → b ≡ true
cond-true true x ws to e = refl
cond-true false x ws to e = cc

cond-read : (b : Bool) (x : Lines) (ws : List ℕ) (to : ℕ) → cond b x NoLines ≡ Numbers ws to → x ≡ Numbers ws to
cond-read true x ws to e = e
cond-read false x ws to e = cc

then-read : (R : Type 0) (t : Option ℕ) (f : ℕ → Lines) (ws : List ℕ) (to : ℕ) → lines_then t f ≡ Numbers ws to → ((v : ℕ) → t ≡ Some v → f v ≡ Numbers ws to → R) → R
then-read R (Some v) f ws to e go = go v refl e
then-read R None f ws to e go = cc

module _ (s ws : List ℕ) (to : ℕ) where
  lines-only : (ls : List Line) → T (are_lines ls) → (vs : List ℕ) (at : ℕ) → at ≤ length s → lines_from ls s at vs ≡ Numbers ws to → Were ls s ws to vs at
  unfolding lines_from lines_text
  lines-only [] t vs at h e =
      let same : vs ≡ ws = cc in
      let there : at ≡ to = cc in
      record {
        values = [];
        all = sym same ∙ sym (append-nil vs);
        within = tt;
        text = ap (λ (i : ℕ). take i s) (sym there) ∙ sym (append-nil (take at s));
        inside = omega arith;
      }
  lines-only (l ∷ ls) t vs at h e =
      let rest = drop at s in
      let end = line_length rest in
      let bytes = take end rest in
      let more : ℕ → Lines = λ v. lines_from ls s (at + (end + 1)) (vs ++ v ∷ []) in
      let ended = ltb-true end (length rest) (cond-true (ltb end (length rest)) (lines_then (line_says l bytes) more) ws to e) in
      then-read (Were (l ∷ ls) s ws to vs at) (line_says l bytes) more ws to (cond-read (ltb end (length rest)) (lines_then (line_says l bytes) more) ws to e)
      (λ v told next.
      let r = lines-only ls (both_right (is_line l) (are_lines ls) t) (vs ++ v ∷ []) (at + (end + 1)) (omega (arith, length-drop at s)) next in
      let others = lines_text ls r.values in
      record {
        values = v ∷ r.values;
        all = r.all ∙ append_snoc vs v r.values;
        within = ((line-only l v bytes told).1 (both_left (is_line l) (are_lines ls) t), r.within);
        text =
            r.text
            ∙ ap (λ (x : List ℕ). x ++ others) (take-add at (end + 1) s)
            ∙ append_assoc (take at s) (take (end + 1) rest) others
            ∙ ap (λ (x : List ℕ). take at s ++ (x ++ others)) (whole-line l v rest ended told);
        inside = r.inside;
      })

-- the numbers that the eight lines told are those of the settings that they gave
bit-of : (v : ℕ) → v ≤ 1 → bit (eqb v 1) ≡ v
bit-of zero h = refl
bit-of (suc zero) h = refl
bit-of (suc (suc v)) h =
    let no : ⊥ = omega arith in
    absurd no

within-length : (ls : List Line) (us : List ℕ) → Within ls us → length us ≡ length ls
within-length [] [] w = refl
within-length [] (u ∷ us) w = absurd w
within-length (l ∷ ls) [] w = absurd w
within-length (l ∷ ls) (u ∷ us) w = ap suc (within-length ls us w.1)

values-back : (us : List ℕ) → Within sheet_lines us → values_of (settings_of us) ≡ us
unfolding sheet_lines settings_of
values-back us w =
    let at : ℕ → ℕ = λ k. get_or us k 0 in
    let eight : each 8 (λ k. at k ∷ []) ≡ us = ap (λ (n : ℕ). each n (λ k. at k ∷ [])) (sym (within-length sheet_lines us w)) ∙ each_of us in
    let h = subst (Within sheet_lines) (sym eight) w in
    rw (bit-of (at 2) h.1.1.0, bit-of (at 3) h.1.1.1.0) eight

-- the lines that gave settings
pub record SheetLines (s : List ℕ) (z : Settings) (at : ℕ) : Type 0 where
  pub settings : Within sheet_lines (values_of z)
  pub limits : Bounded z
  pub text : take at s ≡ sheet_text z
  pub inside : at ≤ length s

module _ (s : List ℕ) (z : Settings) (at : ℕ) where
  sheet-case : (t : Lines) → lines_from sheet_lines s 0 [] ≡ t → sheet_of t ≡ Some (sheet z at) → SheetLines s z at
  unfolding sheet_text
  sheet-case (Numbers ws to) e read =
      let whole : sheet (settings_of ws) to ≡ sheet z at = cc in
      let same : settings_of ws ≡ z = ap (λ (t : Sheet). t.settings) whole in
      let there : to ≡ at = ap (λ (t : Sheet). t.start) whole in
      let r = lines-only s ws to sheet_lines eight-lines [] 0 (omega arith) e in
      let w : Within sheet_lines ws = subst (Within sheet_lines) (sym r.all) r.within in
      let numbers : ws ≡ values_of z = sym (values-back ws w) ∙ ap values_of same in
      let told = subst (Within sheet_lines) numbers w in
      record {
        settings = told;
        limits = bounded z told;
        text = ap (λ (i : ℕ). take i s) (sym there) ∙ r.text ∙ ap (lines_text sheet_lines) (sym r.all ∙ numbers);
        inside = omega (arith, r.inside);
      }
  sheet-case NoLines e read = cc

  pub lines-were : lines_in s ≡ Some (sheet z at) → SheetLines s z at
  unfolding lines_in
  lines-were e = sheet-case (lines_from sheet_lines s 0 []) refl e

-- each is read as it was written
pub sheets-read : (z : Settings) (pixels s : List ℕ) → IsSheet z pixels s → sheet_in s ≡ Some (sheet z (length (sheet_text z)))
sheets-read z pixels s h = ap sheet_in h.whole ∙ sheet-back z h.settings pixels h.size

-- and nothing else is read: "Anything else .. is 14"
pixels-case : (size : ℕ) (t : Sheet) (z : Settings) (at : ℕ) (b : Bool) → eqb size (t.start + 64 * (t.settings.columns * t.settings.rows)) ≡ b → cond b (Some t) None ≡ Some (sheet z at)
    → (Some t ≡ Some (sheet z at)) × (size ≡ at + 64 * (z.columns * z.rows))
pixels-case size t z at true h e =
    let whole : t ≡ sheet z at = cc in
    let same : t.settings ≡ z = ap (λ (r : Sheet). r.settings) whole in
    let start : t.start ≡ at = ap (λ (r : Sheet). r.start) whole in
    (e, eqb-true size (t.start + 64 * (t.settings.columns * t.settings.rows)) h ∙ rw (same, start))
pixels-case size t z at false h e = cc

with-pixels : (size : ℕ) (t : Option Sheet) (z : Settings) (at : ℕ) → with_pixels size t ≡ Some (sheet z at) → (t ≡ Some (sheet z at)) × (size ≡ at + 64 * (z.columns * z.rows))
with-pixels size (Some t) z at e = pixels-case size t z at (eqb size (t.start + 64 * (t.settings.columns * t.settings.rows))) refl e
with-pixels size None z at e = cc

module _ (s : List ℕ) (z : Settings) (at : ℕ) (e : sheet_in s ≡ Some (sheet z at)) where
  pub sheet-lines : SheetLines s z at
  unfolding sheet_in
  sheet-lines = lines-were s z at (with-pixels (length s) (lines_in s) z at e).0

  pub all-size : length s ≡ at + 64 * (z.columns * z.rows)
  unfolding sheet_in
  all-size = (with-pixels (length s) (lines_in s) z at e).1

  pub only-sheets : IsSheet z (drop at s) s
  only-sheets =
      record {
        settings = sheet-lines.settings;
        whole = sym (take-append-drop at s) ∙ ap (λ (l : List ℕ). l ++ drop at s) sheet-lines.text;
        size = length-drop at s ∙ omega (arith, all-size);
      }

  pub pixels-start : at ≡ length (sheet_text z)
  pixels-start = sym (length-take-le at s sheet-lines.inside) ∙ ap length sheet-lines.text
