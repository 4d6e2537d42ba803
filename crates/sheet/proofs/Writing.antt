-- The laws of what is written: bytes put one after the other, the digits of a number, a line.
-- Assumes nothing.
use Prim.Native.Nat.{ℕ, zero, suc, ◌+◌, ◌-◌, ◌/◌, ◌%◌, ◌^◌, ◌<◌, ◌≤◌}
use mathlib.Core.Path.{◌≡◌, refl, sym, ap, ◌∙◌, subst}
use mathlib.Core.Bool.{Bool, true, false, cond}
use mathlib.Core.List.{List, [], ◌∷◌, ◌++◌, append-nil}
use native.Mathlib.Nat.{not-suc-le-zero, zero-add, pow-suc}
use native.Mathlib.Omega.{arith}
use lib.Dec.{ltb, leb, leb→le}
use lib.ListN.{length, set, drop, length-append, length-set}
use lib.Seq.{sets, append_snoc, drop-cons, get_or-set_same, drop-set-lt}
use borrow.Author.Tests.{lt-ltb, le-ltb}
use mir.Val.{bool_byte}
use Rattle.words.specs.Answers.{overwrite}
use Rattle.words.specs.Bytes.{bit}
use Rattle.words.specs.declared.Written.{Written}
use Rattle.words.proofs.Filling.{sets-append}
use Rattle.words.proofs.Loops.{all-at, sets-front}
use Rattle.mode.specs.Names.{name_of}
use Rattle.sheet.specs.Numbers.{digits_of}
use Rattle.sheet.specs.Inner.{text_most}
use Rattle.sheet.specs.Program.{fully, Ran}

-- one digit more, and the last
first_of : (bytes : List ℕ) (k b : ℕ) → suc k ≤ length bytes → drop k (set bytes k b) ≡ b ∷ drop (suc k) bytes
first_of bytes k b h =
    let inside : k < length (set bytes k b) = omega (arith, length-set bytes k b) in
    rw (drop-cons (set bytes k b) k 0 inside, get_or-set_same bytes k b 0 h, drop-set-lt (suc k) bytes k b (omega arith))

module _ (all bytes : List ℕ) (left : ℕ) where
  pub digit-more : (from : ℕ) → 9 < left → left < 10 ^ from → from ≤ length bytes → all ≡ digits_of from left ++ drop from bytes
      → all ≡ digits_of (from - 1) (left / 10) ++ drop (from - 1) (set bytes (from - 1) (48 + left % 10))
  unfolding digits_of
  digit-more zero big small h e =
      let no : ⊥ = omega arith in
      absurd no
  digit-more (suc k) big small h e =
      let ten : 10 ≤ left = omega arith in
      let less : suc k - 1 ≡ k = omega arith in
      e
      ∙ rw (less, le-ltb left 10 ten, append_snoc (digits_of k (left / 10)) (48 + left % 10) (drop (suc k) bytes))
      (sym (ap (λ (l : List ℕ). digits_of k (left / 10) ++ l) (first_of bytes k (48 + left % 10) h)))

  pub digit-last : (from : ℕ) → left ≤ 9 → left < 10 ^ from → 0 < from → from ≤ length bytes → all ≡ digits_of from left ++ drop from bytes
      → all ≡ drop (from - 1) (set bytes (from - 1) (48 + left))
  unfolding digits_of
  digit-last zero few small some h e = absurd (not-suc-le-zero some)
  digit-last (suc k) few small some h e =
      let under : left < 10 = omega arith in
      let less : suc k - 1 ≡ k = omega arith in
      e ∙ rw (less, lt-ltb left 10 under) (sym (first_of bytes k (48 + left) h))

pub fewer : (left from : ℕ) → 9 < left → left < 10 ^ from → left / 10 < 10 ^ (from - 1)
fewer left zero big small =
    let no : ⊥ = omega arith in
    absurd no
fewer left (suc k) big small =
    let less : suc k - 1 ≡ k = omega arith in
    rw less (omega (arith, pow-suc 10 k))

pub some_left : (left from : ℕ) → 0 < left → left < 10 ^ from → 0 < from
some_left left zero some small =
    let no : ⊥ = omega arith in
    absurd no
some_left left (suc k) some small = omega arith

-- no number, and no name, is longer than a text
most-case : (k n : ℕ) (l : List ℕ) (t : Bool) → length l ≤ k → length (cond t ((48 + n) ∷ []) (l ++ (48 + n % 10) ∷ [])) ≤ suc k
most-case k n l true h = omega arith
most-case k n l false h = omega (arith, length-append l ((48 + n % 10) ∷ []))

pub digits-most : (k n : ℕ) → length (digits_of k n) ≤ k
unfolding digits_of
digits-most zero n = omega arith
digits-most (suc k) n = most-case k n (digits_of k (n / 10)) (ltb n 10) (digits-most k (n / 10))

pub name-length : (m : ℕ) → m < 16 → length (name_of m) ≤ text_most
unfolding name_of
name-length m h = leb→le (length (name_of m)) text_most (all-at 16 (λ i. leb (length (name_of i)) text_most) tt m h)

-- a bool as a number
pub flag_bit : (b : Bool) → bool_byte b ≡ bit b
flag_bit true = refl
flag_bit false = refl

-- three texts, put one after the other at the front
three-put : (a b c before : List ℕ) → length a + length b + length c ≤ length before
    → sets (sets (sets before 0 a) (length a) b) (length a + length b) c ≡ overwrite before (a ++ b ++ c)
three-put a b c before h =
    let more : length (a ++ b ++ c) ≤ length before = omega (arith, length-append (a ++ b) c, length-append a b) in
    let two : sets before 0 (a ++ b) ≡ sets (sets before 0 a) (length a) b = rw (sets-append a b before 0, zero-add (length a)) in
    let three : sets before 0 (a ++ b ++ c) ≡ sets (sets (sets before 0 a) (length a) b) (length a + length b) c = rw (sets-append (a ++ b) c before 0, two, length-append a b, zero-add (length a + length b)) in
    sym three ∙ sets-front before (a ++ b ++ c) more

-- the whole text, told or not
pub told : (a b c : List ℕ) {number : ℕ} {text before one two after : List ℕ} → a ≡ text → length a + length b + length c ≤ length before → one ≡ sets before 0 a
    → two ≡ sets one (length a) b
    → after ≡ sets two (length a + length b) c
    → Ran number (text ++ b ++ c) before (fully number (length a + length b + length c)) after
told a b c {number} {text} {before} e h p q r =
    let size : length (text ++ b ++ c) ≡ length a + length b + length c = omega (arith, length-append (text ++ b) c, length-append text b, ap length e) in
    let fits : length (text ++ b ++ c) ≤ length before = omega arith in
    record { answer = rw (le-ltb _ _ fits, size); lent = rw (le-ltb _ _ fits) (r ∙ rw (q, p, three-put a b c before h, e)) }

-- a text of lines alone
pub told-alone : {number : ℕ} {lines text before : List ℕ} {r : Written} {after : List ℕ} → lines ≡ text → Ran number (lines ++ [] ++ []) before r after
    → Ran number text before r after
told-alone {number} {lines} {text} {before} {r} {after} e ran =
    subst (λ (l : List ℕ). Ran number l before r after) (append-nil (lines ++ []) ∙ append-nil lines ∙ e) ran
