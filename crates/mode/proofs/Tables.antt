-- The code's tables are document 01's, each by one computed test.
-- Assumes nothing.
use mathlib.Core.Path.{◌≡◌, refl, sym}
use mathlib.Core.Bool.{Bool, true, false, cond, ◌||◌}
use Rattle.std.specs.Prelude.{Some}
use mathlib.Core.List.{List, [], ◌∷◌}
use Prim.Native.Nat.{ℕ, suc, ◌+◌, ◌-◌, ◌<◌, ◌≤◌}
use native.Mathlib.Omega.{arith}
use lib.Dec.{T, eqb, leb, ltb, leb→le, ltb→lt}
use lib.ListN.{length, get_or}
use borrow.Author.Tests.{eq-eqb, ne_eqb}
use Rattle.words.specs.Bytes.{same}
use Rattle.words.specs.Inner.{all}
use Rattle.words.proofs.Bytes.{read_off}
use Rattle.words.proofs.Loops.{all-at}
use Rattle.mode.specs.Table.{row, one_of, has_depth}
use Rattle.mode.specs.Inner.{depth_at, three, numbers}
use Rattle.mode.specs.Names.{name_of, named_from}

-- the bits of an entry's fields, read off a row that is the mode's: twelve at most
pub bits-off : (k : ℕ) → k < 4 → {m r : ℕ} {l : List ℕ} → m < 16 → r ≡ get_or l (5 + k) 0 → l ≡ numbers (row m) → (r ≡ get_or (numbers (row m)) (5 + k) 0) × (r ≤ 12)
unfolding row
bits-off k lt {m} h e is =
    let n = get_or (numbers (row m)) (5 + k) 0 in
    let read = read_off (5 + k) e is in
    let few = leb→le n 12 (all-at 4 (λ j. leb (get_or (numbers (row m)) (5 + j) 0) 12) (all-at 16 (λ i. all 4 (λ j. leb (get_or (numbers (row i)) (5 + j) 0) 12)) tt m h) k lt) in
    (read, rw read few)

-- a depth that is repeated is no other depth
or_same : (a : Bool) → (a || (a || (a || false))) ≡ (a || false)
or_same true = refl
or_same false = refl

or-last : (a b : Bool) → (a || (b || (b || false))) ≡ (a || (b || false))
or-last true b = refl
or-last false true = refl
or-last false false = refl

one_of_three : (d : ℕ) (ds : List ℕ) → T (ltb 0 (length ds)) → T (ltb (length ds) 4) → one_of d (three ds) ≡ one_of d ds
one_of_three d [] some few = absurd some
one_of_three d (a ∷ []) some few = or_same (eqb d a)
one_of_three d (a ∷ b ∷ []) some few = or-last (eqb d a) (eqb d b)
one_of_three d (a ∷ b ∷ c ∷ []) some few = refl
one_of_three d (a ∷ b ∷ c ∷ e ∷ ds) some few =
    let no : ⊥ = omega (arith, ltb→lt (length (a ∷ b ∷ c ∷ e ∷ ds)) 4 few) in
    absurd no

depth-right : (m : ℕ) → m < 16 → (d : ℕ) → one_of d (three (row m).depths) ≡ has_depth m d
unfolding row
depth-right m h d =
    one_of_three d (row m).depths (all-at 16 (λ k. ltb 0 (length (row k).depths)) tt m h) (all-at 16 (λ k. ltb (length (row k).depths) 4) tt m h)

or-none : (a : Bool) → (a || false) ≡ a
or-none true = refl
or-none false = refl

-- the code compares a depth with the three of the row, one after the other
module _ (m d : ℕ) (h : m < 16) where
  pub first-depth : d ≡ depth_at 0 (row m).depths → true ≡ has_depth m d
  first-depth e = sym (rw (eq-eqb _ _ e) at (sym (depth-right m h d)))

  pub second-depth : (d ≡ depth_at 0 (row m).depths → ⊥) → d ≡ depth_at 1 (row m).depths → true ≡ has_depth m d
  second-depth n e = sym (rw (ne_eqb _ _ n, eq-eqb _ _ e) at (sym (depth-right m h d)))

  pub third-depth : (d ≡ depth_at 0 (row m).depths → ⊥) → (d ≡ depth_at 1 (row m).depths → ⊥) → eqb d (depth_at 2 (row m).depths) ≡ has_depth m d
  third-depth n k = sym (rw (ne_eqb _ _ n, ne_eqb _ _ k, or-none) at (sym (depth-right m h d)))

-- one name more
pub next-name : (s : List ℕ) (m : ℕ) → m < 16 → named_from s m (16 - m) ≡ cond (same s (name_of m)) (Some m) (named_from s (m + 1) (16 - (m + 1)))
next-name s m h =
    let e : 16 - m ≡ suc (16 - (m + 1)) = omega arith in
    rw e
