-- One step of each definition that reads a sheet, at a place of a list.
-- Assumes nothing.
use Prim.Native.Nat.{ℕ, suc, ◌+◌, ◌*◌, ◌-◌, ◌<◌, ◌≤◌}
use mathlib.Core.Path.{◌≡◌, refl, ap, ◌∙◌}
use mathlib.Core.Logic.{⊎_elim}
use mathlib.Core.List.{List, [], ◌∷◌, ◌++◌}
use mathlib.Core.Bool.{Bool, true, false, cond}
use native.Mathlib.Numerals.{add-one}
use native.Mathlib.Omega.{arith}
use lib.ListN.{length, get_or, take, drop, set, length-drop, drop_of_length-le}
use lib.Dec.{ltb, eqb}
use lib.Seq.{drop-cons, take_all, take-suc-set}
use borrow.Author.Tests.{ltb-false, lt-ltb, le-ltb, eq-eqb, ne_eqb}
use Rattle.std.specs.Char.{IsDigitOf}
use Rattle.std.specs.Cmp.Lexicographic.{pointwise}
use Rattle.words.specs.Bytes.{same}
use Rattle.mode.specs.Names.{mode_named}
use Rattle.sheet.specs.declared.Sheet.{Sheet}
use Rattle.sheet.specs.Keys.{key_of}
use Rattle.sheet.specs.declared.keys.Key.TheVariants.{Mode}
use Rattle.sheet.specs.Numbers.{largest, digits_from, number_in, at_most}
use Rattle.sheet.specs.Sheet.{line, sheet_lines, mode_told, text_says, line_says, line_length, Numbers, NoLines, lines_from, lines_in, sheet_in}
use Rattle.sheet.specs.declared.Line.{Line}
use Rattle.sheet.proofs.ByKey.{other-name}
use Rattle.std.specs.Prelude.{Option, Some, None}

-- a byte that is a digit below ten, one that is no digit, and one that is digit d
pub digit-is : (b d : ℕ) → IsDigitOf b d → d < 10 → b ≡ 48 + d
digit-is b d h few = ⊎_elim (λ l. omega arith) (λ letter. absurd (⊎_elim (λ u. omega arith) (λ l. omega arith) letter)) h

none-case : (b : ℕ) (rest : Option ℕ) (low high : Bool) → ltb b 48 ≡ low → ltb 57 b ≡ high → (48 ≤ b → b ≤ 57 → ⊥) → cond low None (cond high None rest) ≡ None
none-case b rest true high p q n = refl
none-case b rest false true p q n = refl
none-case b rest false false p q n = absurd (n (ltb-false b 48 p) (ltb-false 57 b q))

over-case : (d n : ℕ) (rest : List ℕ) → d ≤ 9 → largest < n * 10 + d → digits_from ((48 + d) ∷ rest) n ≡ None
unfolding digits_from
over-case d n rest few large =
    let low : 48 ≤ 48 + d = omega arith in
    let high : 48 + d ≤ 57 = omega arith in
    let value : 48 + d - 48 ≡ d = omega arith in
    rw (le-ltb (48 + d) 48 low, le-ltb 57 (48 + d) high, value, lt-ltb largest (n * 10 + d) large)

pub digit-back : (d n : ℕ) (rest : List ℕ) → d ≤ 9 → n * 10 + d ≤ largest → digits_from ((48 + d) ∷ rest) n ≡ digits_from rest (n * 10 + d)
unfolding digits_from
digit-back d n rest few small =
    let low : 48 ≤ 48 + d = omega arith in
    let high : 48 + d ≤ 57 = omega arith in
    let value : 48 + d - 48 ≡ d = omega arith in
    rw (le-ltb (48 + d) 48 low, le-ltb 57 (48 + d) high, value, le-ltb largest (n * 10 + d) small)

-- digits, one byte further
module _ (s : List ℕ) (i n : ℕ) (h : i < length s) where
  pub digits-none : (48 ≤ get_or s i 0 → get_or s i 0 ≤ 57 → ⊥) → digits_from (drop i s) n ≡ None
  unfolding digits_from
  digits-none other = rw (drop-cons s i 0) (none-case (get_or s i 0) _ _ _ refl refl other)

  module _ (d : ℕ) (e : get_or s i 0 ≡ 48 + d) (few : d ≤ 9) where
    pub digits-over : largest < n * 10 + d → digits_from (drop i s) n ≡ None
    digits-over large = rw (drop-cons s i 0, e) (over-case d n (drop (suc i) s) few large)

    pub digits_more : n * 10 + d ≤ largest → digits_from (drop i s) n ≡ digits_from (drop (i + 1) s) (n * 10 + d)
    digits_more small = rw (drop-cons s i 0, e, add-one) (digit-back d n (drop (suc i) s) few small)

pub digits-end : (s : List ℕ) (i n : ℕ) → length s ≤ i → digits_from (drop i s) n ≡ Some n
unfolding digits_from
digits-end s i n h = rw (drop_of_length-le s h)

-- a line's length, one byte further
module _ (s : List ℕ) (i : ℕ) (h : i < length s) where
  pub line-here : get_or s i 0 ≡ 10 → line_length (drop i s) ≡ 0
  unfolding line_length
  line-here e = rw (drop-cons s i 0) (simp (eq-eqb _ _ e))

  pub line-more : (get_or s i 0 ≡ 10 → ⊥) → line_length (drop i s) ≡ 1 + line_length (drop (i + 1) s)
  unfolding line_length
  line-more n = rw (drop-cons s i 0, add-one) (simp (ne_eqb _ _ n))

pub line-end : (s : List ℕ) (i : ℕ) → length s ≤ i → line_length (drop i s) ≡ 0
unfolding line_length
line-end s i h = rw (drop_of_length-le s h)

-- a number's text, by its first byte
module _ (s : List ℕ) where
  pub number-none : length s ≡ 0 → number_in s ≡ None
  unfolding number_in
  number-none e = simp (eq-eqb _ _ e)

  pub number-zero : (length s ≡ 0 → ⊥) → get_or s 0 0 ≡ 48 → length s ≡ 1 → number_in s ≡ Some 0
  unfolding number_in
  number-zero n z o = simp (ne_eqb _ _ n, eq-eqb _ _ z, eq-eqb _ _ o)

  pub number-leading : (length s ≡ 0 → ⊥) → get_or s 0 0 ≡ 48 → (length s ≡ 1 → ⊥) → number_in s ≡ None
  unfolding number_in
  number-leading n z o = simp (ne_eqb _ _ n, eq-eqb _ _ z, ne_eqb _ _ o)

  pub number_digits : (length s ≡ 0 → ⊥) → (get_or s 0 0 ≡ 48 → ⊥) → number_in s ≡ digits_from s 0
  unfolding number_in
  number_digits n z = simp (ne_eqb _ _ n, ne_eqb _ _ z)

-- the text of a line
pub text-mode : (l : Line) (text : List ℕ) → l.key ≡ Mode → text_says l text ≡ mode_told (mode_named text)
unfolding text_says
text-mode l text e = rw e

pub text-number : (l : Line) (text : List ℕ) → (l.key ≡ Mode → ⊥) → text_says l text ≡ at_most l.top (number_in text)
unfolding text_says
text-number l text n = rw (other-name l.key n)

-- what is left of a list
pub rest_all : (s : List ℕ) (at : ℕ) → take (length s - at) (drop at s) ≡ drop at s
rest_all s at = take_all (length s - at) (drop at s) (omega (arith, length-drop at s))

-- a key that stands at the start of a line, or does not
same_as : (a b : List ℕ) → same a b ≡ pointwise eqb a b
same_as [] [] = refl
same_as [] (y ∷ ys) = refl
same_as (x ∷ xs) [] = refl
same_as (x ∷ xs) (y ∷ ys) = rw (same_as xs ys)

module _ (l : Line) (bytes : List ℕ) {key : List ℕ} (e : key ≡ key_of l.key) where
  pub line-keyed : pointwise eqb (take (length key) bytes) key ≡ true → {text : List ℕ} → text ≡ drop (length key) bytes → line_says l bytes ≡ text_says l text
  unfolding line_says
  line-keyed t q = rw (← e, same_as (take (length key) bytes) key, t, q)

  pub line_other : pointwise eqb (take (length key) bytes) key ≡ false → line_says l bytes ≡ None
  unfolding line_says
  line_other t = rw (← e, same_as (take (length key) bytes) key, t)

-- the eight lines, as the code counts them
abbrev no_line : Line
no_line = line Mode 0

abbrev pub line_at : ℕ → Line
line_at k = get_or sheet_lines k no_line

-- the lines from line k on, by what was found of it, end being its length
abbrev rest_of : List ℕ → ℕ → List ℕ
rest_of s at = take (length s - at) (drop at s)

module _ (s values : List ℕ) (k at : ℕ) {end : ℕ} (h : k < length sheet_lines) (e : end ≡ line_length (rest_of s at)) where
  here : drop k sheet_lines ≡ line_at k ∷ drop (k + 1) sheet_lines
  here = rw (add-one) (drop-cons sheet_lines k no_line h)

  long : end ≡ line_length (drop at s)
  long = e ∙ ap line_length (rest_all s at)

  pub lines_cut : length (rest_of s at) ≤ end → lines_from (drop k sheet_lines) s at (take k values) ≡ NoLines
  unfolding lines_from
  lines_cut l = rw here (simp (← long, le-ltb _ _ (rw (rest_all s at) at l)))

  module _ {l : Line} (q : l ≡ line_at k) (whole : end < length (rest_of s at)) where
    pub lines-wrong : line_says l (take end (rest_of s at)) ≡ None → lines_from (drop k sheet_lines) s at (take k values) ≡ NoLines
    unfolding lines_from
    lines-wrong w = rw (here, ← q) (simp (← long, lt-ltb _ _ (rw (rest_all s at) at whole), rw (rest_all s at) at w))

    pub lines_more : (v : ℕ) → k < length values → line_says l (take end (rest_of s at)) ≡ Some v
        → lines_from (drop k sheet_lines) s at (take k values) ≡ lines_from (drop (k + 1) sheet_lines) s (at + (end + 1)) (take (k + 1) (set values k v))
    unfolding lines_from
    lines_more v fits w =
        let next : take (k + 1) (set values k v) ≡ take k values ++ v ∷ [] = rw add-one (take-suc-set values k v fits) in
        rw (here, next, ← q) (simp (← long, lt-ltb _ _ (rw (rest_all s at) at whole), rw (rest_all s at) at w))

pub lines_end : (s values : List ℕ) (k at : ℕ) → length sheet_lines ≤ k → length values ≤ k → lines_from (drop k sheet_lines) s at (take k values) ≡ Numbers values at
unfolding lines_from
lines_end s values k at h full = rw (drop_of_length-le sheet_lines h, take_all k values full)

-- the pixels after the lines
module _ (s : List ℕ) {t : Sheet} (e : lines_in s ≡ Some t) (h : t.start ≤ length s) where
  pub sheet-read : length s - t.start ≡ 64 * (t.settings.columns * t.settings.rows) → Some t ≡ sheet_in s
  unfolding sheet_in
  sheet-read p =
      let size : length s ≡ t.start + 64 * (t.settings.columns * t.settings.rows) = omega arith in
      rw (e, eq-eqb (length s) (t.start + 64 * (t.settings.columns * t.settings.rows)) size)

  pub sheet-other : (length s - t.start ≡ 64 * (t.settings.columns * t.settings.rows) → ⊥) → None ≡ sheet_in s
  unfolding sheet_in
  sheet-other n =
      let size : length s ≡ t.start + 64 * (t.settings.columns * t.settings.rows) → ⊥ = λ q. n (omega arith) in
      rw (e, ne_eqb (length s) (t.start + 64 * (t.settings.columns * t.settings.rows)) size)

pub sheet-wrong : (s : List ℕ) → lines_in s ≡ None → None ≡ sheet_in s
unfolding sheet_in
sheet-wrong s e = rw e
