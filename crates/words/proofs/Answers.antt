-- The laws of answers: what number 0 says of each check, and how a refusal and a success meet the promise of a call that writes bytes.
-- Assumes nothing.
use mathlib.Core.Path.{◌≡◌, refl, sym, ap, ◌∙◌}
use mathlib.Core.Bool.{Bool, true, false}
use mathlib.Core.List.{List, [], ◌∷◌}
use Prim.Native.Nat.{ℕ, zero, suc, ◌<◌, ◌≤◌}
use native.Mathlib.Nat.{suc-ne-zero}
use lib.Dec.{ltb}
use lib.ListN.{length, get_or, take, drop}
use lib.Seq.{take_at, drop_at}
use borrow.Author.Tests.{lt-ltb, le-ltb}
use Rattle.words.specs.Answers.{◌when◌, first_applying, unless, written, numbered, overwrite, Wrote}
use Rattle.words.specs.declared.Written.{Written}

-- nothing was refused: every check passed
pub all-passed : (ns : List ℕ) → first_applying ns ≡ 0 → (k : ℕ) → get_or ns k 0 ≡ 0
all-passed [] e k = refl
all-passed (zero ∷ ns) e zero = refl
all-passed (zero ∷ ns) e (suc k) = all-passed ns e k
all-passed (suc n ∷ ns) e k = absurd (suc-ne-zero n e)

-- a check whose number is not given did not apply
pub not-given : (n : ℕ) (b : Bool) → suc n when b ≡ 0 → b ≡ false
not-given n true e = absurd (suc-ne-zero n e)
not-given n false e = refl

-- the first number is given where there is one
pub first-given : (n : ℕ) {k : ℕ} (ns : List ℕ) → n ≡ k → (n ≡ 0 → ⊥) → n ≡ first_applying (k ∷ ns)
first-given n {k = zero} ns e h = absurd (h e)
first-given n {k = suc k} ns e h = e

pub last-given : (n : ℕ) → n ≡ first_applying (n ∷ [])
last-given zero = refl
last-given (suc n) = refl

-- checks that end with the room: n is the lowest of those before
pub before-space : (n space size : ℕ) {k : ℕ} → n ≡ k → (n ≡ 0 → ⊥) → n ≡ first_applying (k ∷ 11 when ltb space size ∷ [])
before-space n space size e h = first-given n (11 when ltb space size ∷ []) e h

pub no-space : (n space size : ℕ) → n ≡ 0 → space < size → 11 ≡ first_applying (n ∷ 11 when ltb space size ∷ [])
no-space zero space size e h = rw (lt-ltb space size h)
no-space (suc n) space size e h = absurd (suc-ne-zero n e)

pub space-left : (n space size : ℕ) → n ≡ 0 → size ≤ space → first_applying (n ∷ 11 when ltb space size ∷ []) ≡ 0
space-left zero space size e h = rw (le-ltb space size h)
space-left (suc n) space size e h = absurd (suc-ne-zero n e)

pub when-done : {A : Type 0} (n : ℕ) (a b : A) → n ≡ 0 → unless n a b ≡ a
when-done zero a b e = refl
when-done (suc n) a b e = absurd (suc-ne-zero n e)

pub when-refused : {A : Type 0} (n : ℕ) (a b : A) → (n ≡ 0 → ⊥) → unless n a b ≡ b
when-refused zero a b h = absurd (h refl)
when-refused (suc n) a b h = refl

pub either_way : {A : Type 0} (n : ℕ) (a : A) → unless n a a ≡ a
either_way zero a = refl
either_way (suc n) a = refl

-- where a call is refused, what it would have written does not count
pub refused-written : (n len : ℕ) → (n ≡ 0 → ⊥) → written n 0 ≡ written n len
refused-written zero len h = absurd (h refl)
refused-written (suc n) len h = refl

-- a call that computes a number: refused, and done
pub refused-number : (n : ℕ) {k : ℕ} (value : ℕ) → n ≡ k → (n ≡ 0 → ⊥) → numbered n 0 ≡ numbered k value
refused-number n {k = zero} value e h = absurd (h e)
refused-number n {k = suc k} value e h = ap (λ (i : ℕ). numbered i 0) e ∙ refl

pub given-number : {k : ℕ} (r value : ℕ) → k ≡ 0 → r ≡ value → numbered 0 r ≡ numbered k value
given-number {k = zero} r value z e = ap (λ (i : ℕ). numbered 0 i) e
given-number {k = suc k} r value z e = absurd (suc-ne-zero k z)

-- the two ways to meet the promise: k is the number that is due
module _ {k : ℕ} {bytes before after : List ℕ} {r : Written} where
  pub refuse : (n : ℕ) → n ≡ k → (n ≡ 0 → ⊥) → r ≡ written n 0 → after ≡ before → Wrote k bytes before r after
  refuse n e h a same =
      let due : k ≡ 0 → ⊥ = λ z. h (e ∙ z) in
      record {
        answer = a ∙ ap (λ (i : ℕ). written i 0) e ∙ refused-written k (length bytes) due;
        lent = same ∙ sym (when-refused k (overwrite before bytes) before due);
      }

  pub done : k ≡ 0 → r ≡ written 0 (length bytes) → after ≡ overwrite before bytes → Wrote k bytes before r after
  done e a out =
      record {
        answer = a ∙ ap (λ (i : ℕ). written i (length bytes)) (sym e);
        lent = out ∙ sym (when-done k (overwrite before bytes) before e);
      }

-- what a caller sees of a call that writes bytes
module _ {k : ℕ} {bytes before after : List ℕ} {r : Written} (wrote : Wrote k bytes before r after) where
  told : r.refusal ≡ k
  told = ap (λ (x : Written). x.refusal) wrote.answer

  -- "A refusal returns its number, all else returned 0 or nothing; lent bytes .. are untouched."
  pub refused-untouched : (r.refusal ≡ 0 → ⊥) → (r.written ≡ 0) × (after ≡ before)
  refused-untouched h =
      let due : k ≡ 0 → ⊥ = λ z. h (told ∙ z) in (
        ap (λ (x : Written). x.written) wrote.answer ∙ when-refused k (length bytes) 0 due,
        wrote.lent ∙ when-refused k (overwrite before bytes) before due,
      )

  -- "On success, bytes after the written length are untouched", and those before it are the call's
  pub done-written : r.refusal ≡ 0 → (take r.written after ≡ bytes) × (drop r.written after ≡ drop r.written before)
  done-written done =
      let zero : k ≡ 0 = sym told ∙ done in
      let size : r.written ≡ length bytes = ap (λ (x : Written). x.written) wrote.answer ∙ when-done k (length bytes) 0 zero in
      let left : after ≡ overwrite before bytes = wrote.lent ∙ when-done k (overwrite before bytes) before zero in
      rw (left, size) (take_at bytes (drop (length bytes) before) (length bytes) refl, drop_at bytes (drop (length bytes) before) (length bytes) refl)
