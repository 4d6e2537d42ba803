-- A call's checks in the order of their numbers: the first that applies is the lowest.
-- Assumes nothing.
use mathlib.Core.Path.{◌≡◌, refl, sym, ap, ◌∙◌}
use mathlib.Core.Bool.{Bool, true, false, ◌&&◌}
use mathlib.Core.List.{List, [], ◌∷◌, ◌++◌}
use mathlib.Core.Logic.{◌⊎◌, inl, inr}
use Prim.Native.Nat.{ℕ, zero, suc, ◌≤◌}
use native.Mathlib.Nat.{suc-ne-zero}
use native.Mathlib.Omega.{arith}
use lib.Dec.{T, leb, eqb, leb→le}
use borrow.Author.Tests.{eqb-false}
use Rattle.words.specs.Answers.{◌when◌, first_applying, lower, lowest}
use Rattle.words.proofs.Answers.{all-passed, first-given}
use Rattle.words.proofs.Loops.{both_left, both_right}

-- checks after checks: the first list's answer stands for it
pub first-append : (xs ys : List ℕ) → first_applying (xs ++ ys) ≡ first_applying (first_applying xs ∷ ys)
first-append [] ys = refl
first-append (zero ∷ xs) ys = first-append xs ys
first-append (suc n ∷ xs) ys = refl

-- the first check passed
pub next-given : {n : ℕ} (ns : List ℕ) → n ≡ 0 → first_applying (n ∷ ns) ≡ first_applying ns
next-given {n = zero} ns e = refl
next-given {n = suc n} ns e = absurd (suc-ne-zero n e)

-- checks that answer alike, after others
pub first_alike : (ns xs ys : List ℕ) → first_applying xs ≡ first_applying ys → first_applying (ns ++ xs) ≡ first_applying (ns ++ ys)
first_alike [] xs ys e = e
first_alike (zero ∷ ns) xs ys e = first_alike ns xs ys e
first_alike (suc n ∷ ns) xs ys e = refl

-- a number of the first list is given, all of the first list passed, and both did
module _ (xs ys : List ℕ) where
  pub checks-given : (n : ℕ) → n ≡ first_applying xs → (n ≡ 0 → ⊥) → n ≡ first_applying (xs ++ ys)
  checks-given n e due = first-given n ys e due ∙ sym (first-append xs ys)

  pub checks-after : first_applying xs ≡ 0 → first_applying (xs ++ ys) ≡ first_applying ys
  checks-after e = first-append xs ys ∙ next-given ys e

  pub checks-first : first_applying (xs ++ ys) ≡ 0 → first_applying xs ≡ 0
  checks-first e = all-passed (first_applying xs ∷ ys) (sym (first-append xs ys) ∙ e) 0

  pub checks-rest : first_applying (xs ++ ys) ≡ 0 → first_applying ys ≡ 0
  checks-rest e = sym (checks-after (checks-first e)) ∙ e

-- some checks of which none gives n
abbrev pub Never : ℕ → List ℕ → Type 0
Never n [] = Unit {0}
Never n (k ∷ ks) = (k ≡ n → ⊥) × Never n ks

module _ (n : ℕ) (some : eqb n 0 ≡ false) where
  -- a check of another number, as is computed
  pub never-when : (k : ℕ) (b : Bool) → eqb k n ≡ false → k when b ≡ n → ⊥
  never-when k true e q = eqb-false k n e q
  never-when k false e q = eqb-false n 0 some (sym q)

  never_first : (ks : List ℕ) → Never n ks → first_applying ks ≡ n → ⊥
  never_first [] h e = eqb-false n 0 some (sym e)
  never_first (zero ∷ ks) h e = never_first ks h.1 e
  never_first (suc k ∷ ks) h e = h.0 e

  -- the one check of its number gives it exactly when those before it passed and it applies
  pub only-given : (before after : List ℕ) (b : Bool) → Never n before → Never n after
      → first_applying (before ++ n when b ∷ after) ≡ n → (first_applying before ≡ 0) × (b ≡ true)
  only-given [] after true h k e = (refl, refl)
  only-given [] after false h k e = absurd (never_first after k e)
  only-given (zero ∷ before) after b h k e = only-given before after b h.1 k e
  only-given (suc j ∷ before) after b h k e = absurd (h.0 e)

  pub then-given : (before after : List ℕ) (b : Bool) → first_applying before ≡ 0 → b ≡ true → first_applying (before ++ n when b ∷ after) ≡ n
  then-given before after b z applies =
      checks-after before (n when b ∷ after) z
      ∙ ap (λ (c : Bool). first_applying (n when c ∷ after)) applies
      ∙ sym (first-given n after refl (eqb-false n 0 some))

-- the test that is computed of a call's numbers
abbrev rising : ℕ → List ℕ → Bool
rising k [] = true
rising k (j ∷ js) = leb k j && rising j js

abbrev pub ascending : List ℕ → Bool
ascending ks = rising 0 ks

-- each check gives its own number, or does not apply
abbrev pub Gives : List ℕ → List ℕ → Type 0
Gives [] [] = Unit {0}
Gives [] (n ∷ ns) = ⊥
Gives (k ∷ ks) [] = ⊥
Gives (k ∷ ks) (n ∷ ns) = ((n ≡ 0) ⊎ (n ≡ k)) × Gives ks ns

pub gives-when : (k : ℕ) (b : Bool) → (k when b ≡ 0) ⊎ (k when b ≡ k)
gives-when k true = inr refl
gives-when k false = inl refl

-- one check more
pub gives_more : (ks ns : List ℕ) (k : ℕ) (b : Bool) → Gives ks ns → Gives (ks ++ k ∷ []) (ns ++ k when b ∷ [])
gives_more [] [] k b g = (gives-when k b, tt)
gives_more [] (n ∷ ns) k b g = absurd g
gives_more (j ∷ ks) [] k b g = absurd g
gives_more (j ∷ ks) (n ∷ ns) k b g = (g.0, gives_more ks ns k b g.1)

-- the lower of two numbers that are from j on, where they are not 0
lower-from : (j n x : ℕ) → (n ≡ 0) ⊎ (n ≡ j) → (x ≡ 0) ⊎ (j ≤ x) → (lower n x ≡ 0) ⊎ (j ≤ lower n x)
lower-from j zero x p q = q
lower-from j (suc n) zero (inl e) q = absurd (suc-ne-zero n e)
lower-from j (suc n) zero (inr e) q = inr (omega arith)
lower-from j (suc n) (suc x) (inl e) q = absurd (suc-ne-zero n e)
lower-from j (suc n) (suc x) (inr e) (inl z) = absurd (suc-ne-zero x z)
lower-from j (suc n) (suc x) (inr e) (inr le) = inr (omega arith)

from-below : (k j x : ℕ) → k ≤ j → (x ≡ 0) ⊎ (j ≤ x) → (x ≡ 0) ⊎ (k ≤ x)
from-below k j x le (inl z) = inl z
from-below k j x le (inr q) = inr (omega arith)

lowest-from : (k : ℕ) (ks ns : List ℕ) → T (rising k ks) → Gives ks ns → (lowest ns ≡ 0) ⊎ (k ≤ lowest ns)
lowest-from k [] [] t g = inl refl
lowest-from k [] (n ∷ ns) t g = absurd g
lowest-from k (j ∷ ks) [] t g = absurd g
lowest-from k (j ∷ ks) (n ∷ ns) t g =
    from-below k j (lower n (lowest ns)) (leb→le k j (both_left (leb k j) (rising j ks) t))
    (lower-from j n (lowest ns) g.0 (lowest-from j ks ns (both_right (leb k j) (rising j ks) t) g.1))

lower-first : (j n x : ℕ) → (suc n ≡ 0) ⊎ (suc n ≡ j) → (x ≡ 0) ⊎ (j ≤ x) → suc n ≡ lower (suc n) x
lower-first j n x (inl e) q = absurd (suc-ne-zero n e)
lower-first j n zero (inr e) q = refl
lower-first j n (suc x) (inr e) (inl z) = absurd (suc-ne-zero x z)
lower-first j n (suc x) (inr e) (inr le) = omega arith

first-from : (k : ℕ) (ks ns : List ℕ) → T (rising k ks) → Gives ks ns → first_applying ns ≡ lowest ns
first-from k [] [] t g = refl
first-from k [] (n ∷ ns) t g = absurd g
first-from k (j ∷ ks) [] t g = absurd g
first-from k (j ∷ ks) (zero ∷ ns) t g = first-from j ks ns (both_right (leb k j) (rising j ks) t) g.1
first-from k (j ∷ ks) (suc n ∷ ns) t g =
    lower-first j n (lowest ns) g.0 (lowest-from j ks ns (both_right (leb k j) (rising j ks) t) g.1)

-- "Where several apply, the lowest number is given": ks are a call's numbers in its order
pub first-lowest : (ks ns : List ℕ) → T (ascending ks) → Gives ks ns → first_applying ns ≡ lowest ns
first-lowest ks ns t g = first-from 0 ks ns t g
