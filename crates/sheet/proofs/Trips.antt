-- A sheet that is written from settings is read as those settings, and the pixels start where it ends.
-- Assumes nothing.
use Prim.Native.Nat.{ℕ, zero, suc, ◌+◌, ◌*◌, ◌/◌, ◌%◌, ◌^◌, ◌<◌, ◌≤◌}
use mathlib.Core.Path.{◌≡◌, refl, sym, ap, ◌∙◌}
use mathlib.Core.List.{List, [], ◌∷◌, ◌++◌, append_assoc, append-nil}
use mathlib.Core.Bool.{Bool, true, false, cond}
use native.Mathlib.Nat.{pow-suc, zero-add, add-zero}
use native.Mathlib.Omega.{arith}
use lib.Dec.{T, ltb, eqb, eqb→eq}
use lib.ListN.{length, get_or, drop, length-append, get_or-append}
use lib.Seq.{take-append_seam, drop-append_seam, drop-drop, append_snoc}
use borrow.Author.Tests.{lt-ltb, ltb-true, ltb-false, eq-eqb, ne_eqb, le-leb}
use Rattle.words.specs.Bytes.{bit, same}
use Rattle.words.proofs.Loops.{both_left, both_right, all-at}
use Rattle.mode.specs.Names.{name_of, mode_named}
use Rattle.mode.proofs.ByMode.{by_mode}
use Rattle.picture.specs.declared.Settings.{Settings}
use Rattle.sheet.specs.Keys.{key_of, line_of, is_name}
use Rattle.sheet.specs.Numbers.{largest, digits_of, decimal, digits_from, number_in, at_most}
use Rattle.sheet.specs.Sheet.{sheet_lines, mode_told, text_says, line_says, line_length, Numbers, lines_from, lines_in, sheet_in, settings_of, values_of, sheet, text_for, lines_text, sheet_text, Within}
use Rattle.sheet.specs.declared.Line.{Line}
use Rattle.std.specs.Prelude.{Some}
use Rattle.sheet.proofs.Reading.{digit-back, number_digits}
use Rattle.sheet.proofs.Lines.{is_line, are_lines, key-free, mode-top, number-top, eight-lines}

module _ (k n : ℕ) (rest : List ℕ) (small : n ≤ largest) (ih : digits_from (digits_of k (n / 10) ++ (48 + n % 10) ∷ rest) 0 ≡ digits_from ((48 + n % 10) ∷ rest) (n / 10)) where
  digits-case : (b : Bool) → ltb n 10 ≡ b → digits_from (cond b ((48 + n) ∷ []) (digits_of k (n / 10) ++ (48 + n % 10) ∷ []) ++ rest) 0 ≡ digits_from rest n
  digits-case true e = digit-back n 0 rest (omega (arith, ltb-true n 10 e)) (omega arith) ∙ ap (digits_from rest) (omega arith)
  digits-case false e =
      let whole : n / 10 * 10 + n % 10 ≡ n = omega arith in
      rw (append_snoc (digits_of k (n / 10)) (48 + n % 10) rest)
      (ih ∙ digit-back (n % 10) (n / 10) rest (omega arith) (omega arith) ∙ ap (digits_from rest) whole)

digits-back : (k n : ℕ) (rest : List ℕ) → n < 10 ^ k → n ≤ largest → digits_from (digits_of k n ++ rest) 0 ≡ digits_from rest n
unfolding digits_of
digits-back zero n rest h small =
    let none : 0 ≡ n = omega arith in
    ap (digits_from rest) none
digits-back (suc k) n rest h small =
    let less : n / 10 < 10 ^ k = omega (arith, pow-suc 10 k) in
    digits-case k n rest small (digits-back k (n / 10) ((48 + n % 10) ∷ rest) less (omega arith)) (ltb n 10) refl

-- its first byte is no zero, where the number is none
some-case : (n : ℕ) (l : List ℕ) (b : Bool) → 0 < length (cond b ((48 + n) ∷ []) (l ++ (48 + n % 10) ∷ []))
some-case n l true = omega arith
some-case n l false = omega (arith, length-append l ((48 + n % 10) ∷ []))

some-digit : (k n : ℕ) → 0 < n → n < 10 ^ k → 0 < length (digits_of k n)
unfolding digits_of
some-digit zero n some h =
    let no : ⊥ = omega arith in
    absurd no
some-digit (suc k) n some h = some-case n (digits_of k (n / 10)) (ltb n 10)

first-case : (n : ℕ) (l : List ℕ) (b : Bool) → ltb n 10 ≡ b → 0 < n → (b ≡ false → (0 < length l) × (48 < get_or l 0 0))
    → 48 < get_or (cond b ((48 + n) ∷ []) (l ++ (48 + n % 10) ∷ [])) 0 0
first-case n l true e some ih = omega arith
first-case n l false e some ih = rw (get_or-append l ((48 + n % 10) ∷ []) 0 0 (ih refl).0) (ih refl).1

first-digit : (k n : ℕ) → 0 < n → n < 10 ^ k → 48 < get_or (digits_of k n) 0 0
unfolding digits_of
first-digit zero n some h =
    let no : ⊥ = omega arith in
    absurd no
first-digit (suc k) n some h =
    let less : n / 10 < 10 ^ k = omega (arith, pow-suc 10 k) in
    first-case n (digits_of k (n / 10)) (ltb n 10) refl some
    (λ e. let tens : 0 < n / 10 = omega (arith, ltb-false n 10 e) in
    (some-digit k (n / 10) tens less, first-digit k (n / 10) tens less))

-- a number is read as what it was written from
pub number-back : (n : ℕ) → n ≤ largest → number_in (decimal n) ≡ Some n
unfolding number_in digits_of digits_from
number-back zero small = refl
number-back (suc n) small =
    let some : 0 < suc n = omega arith in
    let fits : suc n < 10 ^ 10 = omega arith in
    let long = some-digit 10 (suc n) some fits in
    let first = first-digit 10 (suc n) some fits in
    number_digits (decimal (suc n)) (λ e. omega arith) (λ e. omega arith)
    ∙ ap (λ (l : List ℕ). digits_from l 0) (sym (append-nil (decimal (suc n))))
    ∙ digits-back 10 (suc n) [] fits small

-- a text without newlines: its line is as long as it is
line-case : (x : ℕ) (xs b : List ℕ) (t : Bool) → cond t 0 (1 + line_length xs) ≡ suc (length xs)
    → (line_length xs ≡ length xs → line_length (xs ++ b) ≡ length xs + line_length b) → cond t 0 (1 + line_length (xs ++ b)) ≡ suc (length xs) + line_length b
line-case x xs b true e ih =
    let no : ⊥ = omega arith in
    absurd no
line-case x xs b false e ih = omega (arith, ih (omega arith))

line-joined : (a b : List ℕ) → line_length a ≡ length a → line_length (a ++ b) ≡ length a + line_length b
unfolding line_length
line-joined [] b e = sym (zero-add (line_length b))
line-joined (x ∷ xs) b e = line-case x xs b (eqb x 10) e (line-joined xs b)

free-both : (a b : List ℕ) → line_length a ≡ length a → line_length b ≡ length b → line_length (a ++ b) ≡ length (a ++ b)
free-both a b ea eb = line-joined a b ea ∙ rw (eb, length-append a b)

digit-free : (d : ℕ) → line_length ((48 + d) ∷ []) ≡ 1
unfolding line_length
digit-free d =
    let other : 48 + d ≡ 10 → ⊥ = λ e. omega arith in
    rw (ne_eqb (48 + d) 10 other)

free-case : (n : ℕ) (l : List ℕ) (b : Bool) → line_length l ≡ length l
    → line_length (cond b ((48 + n) ∷ []) (l ++ (48 + n % 10) ∷ [])) ≡ length (cond b ((48 + n) ∷ []) (l ++ (48 + n % 10) ∷ []))
free-case n l true e = digit-free n
free-case n l false e = free-both l ((48 + n % 10) ∷ []) e (digit-free (n % 10))

digits-free : (k n : ℕ) → line_length (digits_of k n) ≡ length (digits_of k n)
unfolding digits_of line_length
digits-free zero n = refl
digits-free (suc k) n = free-case n (digits_of k (n / 10)) (ltb n 10) (digits-free k (n / 10))

name_free : (m : ℕ) → m < 16 → line_length (name_of m) ≡ length (name_of m)
unfolding name_of line_length
name_free m h = eqb→eq (line_length (name_of m)) (length (name_of m)) (all-at 16 (λ i. eqb (line_length (name_of i)) (length (name_of i))) tt m h)

-- a line is read as what it was written from
same_refl : (a : List ℕ) → same a a ≡ true
same_refl [] = refl
same_refl (x ∷ xs) = rw (eq-eqb x x refl) (same_refl xs)

line-back : (l : Line) (text : List ℕ) → line_says l (key_of l.key ++ text) ≡ text_says l text
unfolding line_says
line-back l text = rw (take-append_seam (key_of l.key) text, same_refl (key_of l.key), drop-append_seam (key_of l.key) text)

-- what its text tells
name_back : (m : ℕ) → m < 16 → mode_told (mode_named (name_of m)) ≡ Some m
unfolding name_of
name_back = by_mode (λ (m : ℕ). mode_told (mode_named (name_of m)) ≡ Some m) refl refl refl refl refl refl refl refl refl refl refl refl refl refl refl refl

module _ (l : Line) (t : T (is_line l)) (v : ℕ) (h : v ≤ l.top) where
  back-case : (by_name : Bool) → is_name l.key ≡ by_name
      → cond by_name (mode_told (mode_named (cond by_name (name_of v) (decimal v)))) (at_most l.top (number_in (cond by_name (name_of v) (decimal v)))) ≡ Some v
  back-case true e = name_back v (omega (arith, mode-top l t e))
  back-case false e = rw (number-back v (omega (arith, number-top l t e)), le-leb v l.top h)

  text-back : text_says l (text_for l v) ≡ Some v
  unfolding text_says text_for
  text-back = back-case (is_name l.key) refl

  text-case : (named : Bool) → is_name l.key ≡ named → line_length (cond named (name_of v) (decimal v)) ≡ length (cond named (name_of v) (decimal v))
  text-case true e = name_free v (omega (arith, mode-top l t e))
  text-case false e = digits-free 10 v

  text-free : line_length (text_for l v) ≡ length (text_for l v)
  unfolding text_for
  text-free = text-case (is_name l.key) refl

-- one line more: rest is what stands after it
module _ (l : Line) (t : T (is_line l)) (v : ℕ) (h : v ≤ l.top) (s rest : List ℕ) (at : ℕ) (e : drop at s ≡ line_of l.key (text_for l v) ++ rest) where
  all : List ℕ
  all = key_of l.key ++ text_for l v

  size : length (line_of l.key (text_for l v)) ≡ length all + 1
  unfolding line_of all
  size = length-append all (10 ∷ [])

  line_read : (ls : List Line) (vs : List ℕ) → lines_from (l ∷ ls) s at vs ≡ lines_from ls s (at + length (line_of l.key (text_for l v))) (vs ++ v ∷ [])
  unfolding lines_from line_length line_of all
  line_read ls vs =
      let here : drop at s ≡ all ++ 10 ∷ rest = e ∙ append_snoc all 10 rest in
      let ends : line_length (all ++ 10 ∷ rest) ≡ length all = line-joined all (10 ∷ rest) (free-both (key_of l.key) (text_for l v) (key-free l t) (text-free l t v h)) ∙ add-zero (length all) in
      let more : length all < length (all ++ 10 ∷ rest) = omega (arith, length-append all (10 ∷ rest)) in
      rw (here, ends, lt-ltb (length all) (length (all ++ 10 ∷ rest)) more, take-append_seam all (10 ∷ rest), line-back l (text_for l v) ∙ text-back l t v h, size)

  line-left : drop (at + length (line_of l.key (text_for l v))) s ≡ rest
  line-left =
      let bytes = line_of l.key (text_for l v) in
      sym (drop-drop (length bytes) at s) ∙ ap (drop (length bytes)) e ∙ drop-append_seam bytes rest

-- lines are read as the numbers that they were written from
pub lines-back : (ls : List Line) → T (are_lines ls) → (us : List ℕ) → Within ls us → (s vs rest : List ℕ) (at : ℕ) → drop at s ≡ lines_text ls us ++ rest
    → lines_from ls s at vs ≡ Numbers (vs ++ us) (at + length (lines_text ls us))
unfolding lines_from lines_text
lines-back [] t [] w s vs rest at e = rw (append-nil, add-zero)
lines-back [] t (u ∷ us) w s vs rest at e = absurd w
lines-back (l ∷ ls) t [] w s vs rest at e = absurd w
lines-back (l ∷ ls) t (u ∷ us) w s vs rest at e =
    let mine = both_left (is_line l) (are_lines ls) t in
    let bytes = line_of l.key (text_for l u) in
    let here : drop at s ≡ bytes ++ (lines_text ls us ++ rest) = e ∙ append_assoc bytes (lines_text ls us) rest in
    let long : at + length bytes + length (lines_text ls us) ≡ at + length (bytes ++ lines_text ls us) = omega (arith, length-append bytes (lines_text ls us)) in
    line_read l mine u w.0 s (lines_text ls us ++ rest) at here ls vs
    ∙ lines-back ls (both_right (is_line l) (are_lines ls) t) us w.1 s (vs ++ u ∷ []) rest (at + length bytes) (line-left l mine u w.0 s (lines_text ls us ++ rest) at here)
    ∙ rw (append_snoc vs u us, long)

bit-back : (b : Bool) → eqb (bit b) 1 ≡ b
bit-back true = refl
bit-back false = refl

values-told : (z : Settings) → settings_of (values_of z) ≡ z
unfolding settings_of
values-told z = rw (bit-back z.flip, bit-back z.discard)

pub sheet-back : (z : Settings) → Within sheet_lines (values_of z) → (pixels : List ℕ) → length pixels ≡ 64 * (z.columns * z.rows)
    → sheet_in (sheet_text z ++ pixels) ≡ Some (sheet z (length (sheet_text z)))
unfolding sheet_in lines_in sheet_text
sheet-back z w pixels size =
    let read = lines-back sheet_lines eight-lines (values_of z) w (sheet_text z ++ pixels) [] pixels 0 refl in
    let all : length (sheet_text z ++ pixels) ≡ length (sheet_text z) + 64 * (z.columns * z.rows) = length-append (sheet_text z) pixels ∙ rw size in
    rw (read, values-told z, zero-add (length (sheet_text z)), eq-eqb _ _ all)
