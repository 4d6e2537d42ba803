-- The laws of items of one length that stand one after the other: each is found again, and any list is made of its parts.
-- Assumes nothing.
use mathlib.Core.Path.{◌≡◌, refl, sym, ap, ◌∙◌}
use mathlib.Core.Bool.{Bool, true, false, ◌||◌}
use mathlib.Core.List.{List, [], ◌∷◌, ◌++◌, append_assoc, append-nil}
use mathlib.Core.Logic.{⊎_elim}
use Prim.Native.Nat.{ℕ, zero, suc, ◌+◌, ◌*◌, ◌<◌, ◌≤◌}
use native.Mathlib.Nat.{not-suc-le-zero, eq-or-lt_of_le, le_of_suc-le-suc, add-zero, add-suc, suc-mul, zero-mul, mul-one, mul-le-mul_right}
use native.Mathlib.Numerals.{add-one}
use native.Mathlib.Omega.{arith}
use lib.ListN.{length, get_or, take, drop, length-drop}
use lib.Seq.{sets, take-append-le, drop-append-le, drop_at, take-add, take_all, get_or-take, get_or-drop}
use Rattle.words.specs.Loops.{each, some}
use Rattle.words.proofs.Loops.{length-each, put_next}

-- two tests that both fail
pub neither_left : (a b : Bool) → (a || b) ≡ false → a ≡ false
neither_left true b e = e
neither_left false b e = refl

pub neither_right : (a b : Bool) → (a || b) ≡ false → b ≡ false
neither_right true true e = e
neither_right true false e = refl
neither_right false b e = e

pub none-at : (n : ℕ) (f : ℕ → Bool) → some n f ≡ false → (i : ℕ) → i < n → f i ≡ false
none-at zero f e i lt = absurd (not-suc-le-zero lt)
none-at (suc n) f e i lt =
    ⊎_elim (λ q. rw q (neither_right (some n f) (f n) e)) (λ l. none-at n f (neither_left (some n f) (f n) e) i l)
    (eq-or-lt_of_le (le_of_suc-le-suc lt))

-- items that are equal one by one
pub each-eq : (n : ℕ) (f g : ℕ → List ℕ) → ((i : ℕ) → i < n → f i ≡ g i) → each n f ≡ each n g
each-eq zero f g h = refl
each-eq (suc n) f g h = rw (each-eq n f g (λ i lt. h i (omega arith)), h n (omega arith))

-- one item more, of k
pub item-inside : (k n i : ℕ) → i < n → i * k + k ≤ n * k
item-inside k n i lt = omega (arith, mul-le-mul_right k lt, suc-mul i k)

pub item-end : (k i : ℕ) → i * k + k ≡ (i + 1) * k
item-end k i = rw (add-one i) (omega (arith, suc-mul i k))

-- item i is found where i items of its length end
module _ (k : ℕ) (f : ℕ → List ℕ) (size : (i : ℕ) → length (f i) ≡ k) where
  pub item-at : (n i : ℕ) → i < n → take k (drop (i * k) (each n f)) ≡ f i
  item-at zero i lt = absurd (not-suc-le-zero lt)
  item-at (suc n) i lt =
      ⊎_elim
      (λ q. rw (← q, drop_at (each i f) (f i) (i * k) (length-each i k f size)) (take_all k (f i) (omega (arith, size i))))
      (λ l. let space = item-inside k n i l in
      let len = length-each n k f size in
      let inside : i * k ≤ length (each n f) = omega arith in
      let enough : k ≤ length (drop (i * k) (each n f)) = omega (arith, length-drop (i * k) (each n f)) in
      rw (drop-append-le (i * k) (each n f) (f n) inside, take-append-le k (drop (i * k) (each n f)) (f n) enough) (item-at n i l))
      (eq-or-lt_of_le (le_of_suc-le-suc lt))

  -- and so is each number of it
  pub item-get_or : (n i : ℕ) → i < n → (j : ℕ) → j < k → get_or (each n f) (i * k + j) 0 ≡ get_or (f i) j 0
  item-get_or n i lt j small =
      sym (get_or-drop (i * k) (each n f) j 0) ∙ sym (get_or-take k (drop (i * k) (each n f)) j 0 small) ∙ ap (λ (l : List ℕ). get_or l j 0) (item-at n i lt)

  -- the bytes of one more item, put where those before it end
  pub put_item : (i : ℕ) (l : List ℕ) → i * k + k ≤ length l → sets (each i f ++ drop (i * k) l) (i * k) (f i) ≡ each (i + 1) f ++ drop ((i + 1) * k) l
  put_item i l space = rw (← item-end k i, add-one i) (put_next (each i f) (f i) l (i * k) k (length-each i k f size) (size i) space)

-- a list is its parts
pub parts : (k n : ℕ) (l : List ℕ) → n * k ≤ length l → each n (λ i. take k (drop (i * k) l)) ≡ take (n * k) l
parts k zero l h = rw zero-mul
parts k (suc n) l h = rw (parts k n l (omega (arith, suc-mul n k)), suc-mul n k) (sym (take-add (n * k) k l))

pub whole_parts : (k n : ℕ) (l : List ℕ) → length l ≡ n * k → each n (λ i. take k (drop (i * k) l)) ≡ l
whole_parts k n l e = parts k n l (omega arith) ∙ take_all (n * k) l (omega arith)

-- ---- numbers one after the other: how many, and each by its place
pub length-ones : (n : ℕ) (f : ℕ → ℕ) → length (each n (λ k. f k ∷ [])) ≡ n
length-ones n f = length-each n 1 (λ k. f k ∷ []) (λ k. refl) ∙ mul-one n

pub number_at : (n : ℕ) (f : ℕ → ℕ) (i : ℕ) → i < n → get_or (each n (λ k. f k ∷ [])) i 0 ≡ f i
number_at n f i lt =
    let e : i * 1 + 0 ≡ i = omega arith in
    ap (λ (k : ℕ). get_or (each n (λ k. f k ∷ [])) k 0) (sym e) ∙ item-get_or 1 (λ k. f k ∷ []) (λ k. refl) n i lt 0 (omega arith)

-- ---- items after items, and items of items
pub each-add : (n k : ℕ) (f : ℕ → List ℕ) → each (n + k) f ≡ each n f ++ each k (λ j. f (n + j))
each-add n zero f = ap (λ (i : ℕ). each i f) (add-zero n) ∙ sym (append-nil (each n f))
each-add n (suc k) f =
    ap (λ (i : ℕ). each i f) (add-suc n k)
    ∙ ap (λ (l : List ℕ). l ++ f (n + k)) (each-add n k f)
    ∙ append_assoc (each n f) (each k (λ j. f (n + j))) (f (n + k))

pub each-each : (n k : ℕ) (f : ℕ → List ℕ) → each n (λ i. each k (λ j. f (i * k + j))) ≡ each (n * k) f
each-each zero k f = ap (λ (i : ℕ). each i f) (sym (zero-mul k))
each-each (suc n) k f =
    ap (λ (l : List ℕ). l ++ each k (λ j. f (n * k + j))) (each-each n k f)
    ∙ sym (each-add (n * k) k f)
    ∙ ap (λ (i : ℕ). each i f) (sym (suc-mul n k))
