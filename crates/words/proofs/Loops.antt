-- The laws of counted loops: a computed test over every number below n, and the bytes of items put one after the other.
-- Assumes nothing.
use mathlib.Core.Path.{◌≡◌, refl, sym, ap, ◌∙◌, subst}
use mathlib.Core.Bool.{Bool, true, false, cond, ◌&&◌, ◌||◌}
use mathlib.Core.List.{List, ◌++◌, append_assoc}
use mathlib.Core.Logic.{⊎_elim}
use Prim.Native.Nat.{ℕ, zero, suc, ◌+◌, ◌*◌, ◌<◌, ◌≤◌}
use native.Mathlib.Nat.{zero-add, zero-mul, suc-mul, not-suc-le-zero, eq-or-lt_of_le, le_of_suc-le-suc}
use native.Mathlib.Omega.{arith}
use lib.Dec.{T}
use lib.ListN.{length, drop, length-append, length-drop}
use lib.Seq.{sets, sets-eq, take_at, drop_at, drop-drop}
use Rattle.words.specs.Answers.{overwrite}
use Rattle.words.specs.Loops.{each, some}
use Rattle.words.specs.Inner.{all}

pub both_left : (a b : Bool) → T (a && b) → T a
both_left true b t = tt
both_left false b t = t

pub both_right : (a b : Bool) → T (a && b) → T b
both_right true b t = t
both_right false b t = absurd t

pub both : (a b : Bool) → T a → T b → T (a && b)
both true b ta tb = tb
both false b ta tb = ta

pub or-true : (a : Bool) → (a || true) ≡ true
or-true true = refl
or-true false = refl

pub and-false : (a : Bool) → (a && false) ≡ false
and-false true = refl
and-false false = refl

-- what holds of both holds of either
pub either : {A : Type 0} (P : A → Type 0) (b : Bool) (x y : A) → P x → P y → P (cond b x y)
either P true x y p q = p
either P false x y p q = q

-- a test that is computed over every number below n, as a rule at each
pub all-at : (n : ℕ) (f : ℕ → Bool) → T (all n f) → (k : ℕ) → k < n → T (f k)
all-at zero f t k h = absurd (not-suc-le-zero h)
all-at (suc n) f t k h =
    ⊎_elim (λ e. subst (λ (i : ℕ). T (f i)) (sym e) (both_left (f n) (all n f) t)) (λ l. all-at n f (both_right (f n) (all n f) t) k l)
    (eq-or-lt_of_le (le_of_suc-le-suc h))

pub some-true : (n : ℕ) (f : ℕ → Bool) (i : ℕ) → i < n → f i ≡ true → some n f ≡ true
some-true zero f i lt h = absurd (not-suc-le-zero lt)
some-true (suc n) f i lt h =
    ⊎_elim (λ e. rw (← e, h) (or-true (some i f))) (λ l. rw (some-true n f i l h)) (eq-or-lt_of_le (le_of_suc-le-suc lt))

pub length-each : (n k : ℕ) (f : ℕ → List ℕ) → ((i : ℕ) → length (f i) ≡ k) → length (each n f) ≡ n * k
length-each zero k f h = sym (zero-mul k)
length-each (suc n) k f h = length-append (each n f) (f n) ∙ rw (length-each n k f h, h n, suc-mul)

-- bytes put at the start
pub sets-front : (l bytes : List ℕ) → length bytes ≤ length l → sets l 0 bytes ≡ overwrite l bytes
sets-front l bytes h = sets-eq bytes l 0 (omega arith) ∙ rw zero-add

-- the bytes of one more item, put where those before it end
pub put_next : (e vs l : List ℕ) (at k : ℕ) → length e ≡ at → length vs ≡ k → at + k ≤ length l → sets (e ++ drop at l) at vs ≡ (e ++ vs) ++ drop (at + k) l
put_next e vs l at k he hv space =
    let x = e ++ drop at l in
    let fits : at + length vs ≤ length x = omega (arith, length-append e (drop at l), length-drop at l) in
    let tail : drop (at + length vs) x ≡ drop (at + k) l =
    sym (drop-drop (length vs) at x) ∙ ap (λ (y : List ℕ). drop (length vs) y) (drop_at e (drop at l) at he) ∙ drop-drop (length vs) at l ∙ ap (λ (i : ℕ). drop (at + i) l) hv in
    sets-eq vs x at fits ∙ rw (take_at e (drop at l) at he, tail, append_assoc)

-- a number that is none of 0, 1, .., k - 1, as the last arm of a match over them knows it
abbrev pub Passed : ℕ → ℕ → Type 0
Passed zero n = Unit {0}
Passed (suc k) n = Passed k n × (n ≡ k → ⊥)

pub passed : (k n : ℕ) → Passed k n → k ≤ n
passed zero n p = omega arith
passed (suc k) n p = omega (arith, passed k n p.0, p.1)
