-- The one law of every loop that fills a lent slice: items put one after the other, from a place on.
-- Assumes nothing.
use mathlib.Core.Path.{◌≡◌, refl, sym, ap, ◌∙◌}
use mathlib.Core.List.{List, [], ◌∷◌, ◌++◌, append-nil, append_assoc}
use Prim.Native.Nat.{ℕ, suc, ◌+◌, ◌*◌, ◌≤◌}
use native.Mathlib.Nat.{zero-add, add-zero, add-suc, suc-add, mul-one}
use native.Mathlib.Numerals.{add-one}
use native.Mathlib.Omega.{arith}
use lib.ListN.{length, get_or, set, take, drop, length-drop, drop_of_length-le}
use lib.Seq.{sets, sets-eq, drop-drop, length-sets, ext_get_or, length-take-le, get_or-take, get_or-drop}
use borrow.Rule.Slice.PartMut.{put_mid}
use Rattle.words.specs.Answers.{overwrite}
use Rattle.words.specs.Loops.{each}
use Rattle.words.proofs.Items.{each-eq, length-ones, number_at}
use Rattle.words.proofs.Loops.{length-each, sets-front}

pub sets-append : (xs ys l : List ℕ) (i : ℕ) → sets l i (xs ++ ys) ≡ sets (sets l i xs) (i + length xs) ys
sets-append [] ys l i = ap (λ (n : ℕ). sets l n ys) (sym (add-zero i))
sets-append (a ∷ xs) ys l i =
    sets-append xs ys (set l i a) (suc i)
    ∙ ap (λ (n : ℕ). sets (sets (set l i a) (suc i) xs) n ys) (suc-add i (length xs) ∙ sym (add-suc i (length xs)))

-- the invariant: now is out with items 0, .., i - 1 from place at on
pub record Filled (f : ℕ → List ℕ) (out : List ℕ) (at i : ℕ) (now : List ℕ) : Type 0 where
  pub is : now ≡ sets out at (each i f)
  pub long : length now ≡ length out

pub filled_none : (f : ℕ → List ℕ) (out : List ℕ) (at : ℕ) → Filled f out at 0 out
filled_none f out at = record { is = refl; long = refl }

-- one item of k numbers more
pub filled_more : (k : ℕ) {f : ℕ → List ℕ} {out now then : List ℕ} {at i : ℕ} → ((j : ℕ) → length (f j) ≡ k) → Filled f out at i now → then ≡ sets now (at + i * k) (f i)
    → Filled f out at (i + 1) then
filled_more k {f} {out} {now} {then} {at} {i} size h e =
    record {
      is =
          e ∙ ap (λ (l : List ℕ). sets l (at + i * k) (f i)) h.is
          ∙ ap (λ (n : ℕ). sets (sets out at (each i f)) (at + n) (f i)) (sym (length-each i k f size))
          ∙ sym (sets-append (each i f) (f i) out at)
          ∙ ap (λ (n : ℕ). sets out at (each n f)) (sym (add-one i));
      long = ap length e ∙ length-sets now (at + i * k) (f i) ∙ h.long;
    }

-- one number more
pub filled-one : {g : ℕ → ℕ} {out now : List ℕ} {at i v : ℕ} → Filled (λ k. g k ∷ []) out at i now → v ≡ g i → Filled (λ k. g k ∷ []) out at (i + 1) (set now (at + i) v)
filled-one {g} {out} {now} {at} {i} {v} h e =
    filled_more 1 (λ j. refl) h (ap (λ (x : ℕ). set now (at + i) x) e ∙ ap (λ (k : ℕ). set now (at + k) (g i)) (sym (mul-one i)))

-- the same from the start on
pub filled_next : (k : ℕ) {f : ℕ → List ℕ} {out now then : List ℕ} {i : ℕ} → ((j : ℕ) → length (f j) ≡ k) → Filled f out 0 i now → then ≡ sets now (i * k) (f i)
    → Filled f out 0 (i + 1) then
filled_next k {f} {now = now} {i = i} size h e = filled_more k size h (e ∙ ap (λ (n : ℕ). sets now n (f i)) (sym (zero-add (i * k))))

pub filled-next-one : {g : ℕ → ℕ} {out now : List ℕ} {i : ℕ} → Filled (λ k. g k ∷ []) out 0 i now → Filled (λ k. g k ∷ []) out 0 (i + 1) (set now i (g i))
filled-next-one {g} {now = now} {i = i} h = filled_next 1 (λ j. refl) h (ap (λ (k : ℕ). set now k (g i)) (sym (mul-one i)))

-- all of them: from a place on, from the start, and where they are all that the slice has
pub filled-all : {f : ℕ → List ℕ} {out now : List ℕ} {at i : ℕ} (n : ℕ) → Filled f out at i now → i ≡ n → now ≡ sets out at (each n f)
filled-all {f} {out} {now} {at} n h e = h.is ∙ ap (λ (k : ℕ). sets out at (each k f)) e

pub filled-front : (k : ℕ) {f : ℕ → List ℕ} {out now : List ℕ} {i : ℕ} (n : ℕ) → ((j : ℕ) → length (f j) ≡ k) → Filled f out 0 i now → i ≡ n → n * k ≤ length out
    → now ≡ overwrite out (each n f)
filled-front k {f} {out} n size h e fits = filled-all n h e ∙ sets-front out (each n f) (omega (arith, length-each n k f size))

pub filled-whole : (k : ℕ) {f : ℕ → List ℕ} {out now : List ℕ} {i : ℕ} (n : ℕ) → ((j : ℕ) → length (f j) ≡ k) → Filled f out 0 i now → i ≡ n → length out ≡ n * k
    → now ≡ each n f
filled-whole k {f} {out} n size h e whole =
    filled-front k n size h e (omega arith)
    ∙ ap (λ (l : List ℕ). each n f ++ l) (drop_of_length-le out {i = length (each n f)} (omega (arith, length-each n k f size)))
    ∙ append-nil (each n f)

-- a list is its numbers, so that copying one is filling too
pub each_of : (l : List ℕ) → each (length l) (λ k. get_or l k 0 ∷ []) ≡ l
each_of l =
    let long : length (each (length l) (λ k. get_or l k 0 ∷ [])) ≡ length l = length-ones (length l) (λ k. get_or l k 0) in
    ext_get_or 0 (each (length l) (λ k. get_or l k 0 ∷ [])) l long (λ i lt. number_at (length l) (λ k. get_or l k 0) i (omega (arith, long)))

pub each_part : (l : List ℕ) (at n : ℕ) → at + n ≤ length l → each n (λ k. get_or l (at + k) 0 ∷ []) ≡ take n (drop at l)
each_part l at n inside =
    let part = take n (drop at l) in
    let long : length part ≡ n = length-take-le n (drop at l) (omega (arith, length-drop at l)) in
    each-eq n (λ k. get_or l (at + k) 0 ∷ []) (λ k. get_or part k 0 ∷ [])
    (λ k lt. ap (λ (v : ℕ). v ∷ []) (sym (get_or-take n (drop at l) k 0 lt ∙ get_or-drop at l k 0)))
    ∙ ap (λ (i : ℕ). each i (λ k. get_or part k 0 ∷ [])) (sym long)
    ∙ each_of part

-- what is copied into a part of a slice
pub put_mid-sets : (a k : ℕ) (xs ys : List ℕ) → k ≡ length ys → a + length ys ≤ length xs → put_mid a k xs ys ≡ sets xs a ys
put_mid-sets a k xs ys e le = rw (e, sets-eq ys xs a le, drop-drop, append_assoc)
