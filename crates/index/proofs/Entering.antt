-- One tile more in an index: it stays true.
-- Assumes nothing.
use mathlib.Core.Path.{◌≡◌, refl, sym, ap, ◌∙◌, subst}
use mathlib.Core.Bool.{Bool, true, false}
use mathlib.Core.List.{List, [], ◌∷◌, ◌++◌}
use mathlib.Core.Logic.{⊎_elim}
use Prim.Native.Nat.{ℕ, ◌+◌, ◌<◌, ◌≤◌}
use native.Mathlib.Nat.{eq-or-lt_of_le, ne_of_lt, mod-lt}
use native.Mathlib.Omega.{arith}
use lib.Dec.{eqb}
use lib.ListN.{length, get_or, set, length-append, get_or-append}
use lib.Seq.{get_or-append_seam, get_or-set_same, get_or-set_other, set-get_or}
use borrow.Author.Tests.{eqb-true, eqb-false}
use Rattle.flip.specs.Matching.{matches}
use Rattle.tileset.specs.Finding.{look_up, is_found}
use Rattle.tileset.specs.declared.Found.{Found}
use Rattle.tileset.specs.declared.Found.TheVariants.{At, Nothing}
use Rattle.tileset.proofs.Matched.{look-some}
use Rattle.index.specs.InnerKeys.{key}
use Rattle.index.specs.Inner.{key_at, head_at, next_at, IsEmpty, bucket_of, Skip, Gap, Indexed, Searches, Enters}
use Rattle.index.specs.declared.Index.{Index}
use Rattle.index.proofs.Chains.{some-where}

-- ---- an index of no tiles

pub indexed-none : (on : Bool) (x : Index) → IsEmpty x → Indexed on [] x
indexed-none on x z =
    record {
      keyed = λ k p. absurd (omega arith);
      head_low = λ b p. omega (arith, z b p);
      head_gap = λ b p j q r. absurd (omega arith);
      next_low = λ k p. absurd (omega arith);
      next_gap = λ k p. absurd (omega arith);
    }

-- ---- one tile more

-- each k below n + 1 is below n, or n
split : (n k : ℕ) (P : ℕ → Type 0) → k < n + 1 → (k < n → P k) → P n → P k
split n k P p f e = ⊎_elim (λ (q : k ≡ n). subst P (sym q) e) f (eq-or-lt_of_le (let q : k ≤ n = omega arith in q))

module _ (on : Bool) (tiles : List (List ℕ)) (t : List ℕ) where
  abbrev more : List (List ℕ)
  more = tiles ++ t ∷ []

  abbrev b : ℕ
  b = bucket_of on t

  len : length more ≡ length tiles + 1
  len = length-append tiles (t ∷ [])

  old : (j : ℕ) → j < length tiles → get_or more j [] ≡ get_or tiles j []
  old j p = get_or-append tiles (t ∷ []) [] j p

  new : get_or more (length tiles) [] ≡ t
  new = get_or-append_seam tiles t [] []

  skip-old : (c j : ℕ) → j < length tiles → Skip on tiles c j → Skip on more c j
  skip-old c j p s e =
      let r = s (ap (λ (a : List ℕ). bucket_of on a) (sym (old j p)) ∙ e) in
      let i-old = ap (λ (a : List ℕ). matches on 8 8 a (get_or more j [])) (old r.0 (omega (arith, r.1))) in
      (r.0, r.1, i-old ∙ ap (matches on 8 8 (get_or tiles r.0 [])) (old j p) ∙ r.2)

  gap-old : (c low high : ℕ) → high ≤ length tiles → Gap on tiles c low high → Gap on more c low high
  gap-old c low high p g j q r = skip-old c j (omega arith) (g j q r)

  gap_more : (c low : ℕ) → Gap on tiles c low (length tiles) → Skip on more c (length tiles) → Gap on more c low (length tiles + 1)
  gap_more c low g s j q r = split (length tiles) j (Skip on more c) r (λ p. skip-old c j p (g j q p)) s

  module _ (x after : Index) (i : Indexed on tiles x) (room : length tiles < 4096)
      (keyed-then : after.keys ≡ set x.keys (length tiles) (key on t)) (linked : after.next ≡ set x.next (length tiles) (head_at x b)) where
    b_lt : b < 4096
    b_lt = mod-lt (key on t) (omega arith)

    keyed : (k : ℕ) → k < length more → key_at after k ≡ key on (get_or more k [])
    keyed k p =
        rw keyed-then
        (split (length tiles) k (λ (j : ℕ). get_or (set x.keys (length tiles) (key on t)) j 0 ≡ key on (get_or more j [])) (omega (arith, len))
        (λ q. get_or-set_other x.keys (length tiles) k (key on t) 0 (ne_of_lt q) ∙ i.keyed k q ∙ ap (key on) (sym (old k q)))
        (get_or-set_same x.keys (length tiles) (key on t) 0 (omega arith) ∙ ap (key on) (sym new)))

    -- the link of each tile: the one it had, or for the new tile the head of its bucket
    next-is : (P : ℕ → ℕ → Type 0) (k : ℕ) → k < length more → (k < length tiles → P k (next_at x k)) → P (length tiles) (head_at x b) → P k (next_at after k)
    next-is P k p f g =
        rw linked
        (split (length tiles) k (λ (j : ℕ). P j (get_or (set x.next (length tiles) (head_at x b)) j 0)) (omega (arith, len))
        (λ q. subst (P k) (sym (get_or-set_other x.next (length tiles) k (head_at x b) 0 (ne_of_lt q))) (f q))
        (subst (P (length tiles)) (sym (get_or-set_same x.next (length tiles) (head_at x b) 0 (omega arith))) g))

    next_low_lem : (k : ℕ) → k < length more → next_at after k ≤ k
    next_low_lem k p = next-is (λ (j n : ℕ). n ≤ j) k p (i.next_low k) (i.head_low b b_lt)

    next-gap : (k : ℕ) → k < length more → Gap on more (bucket_of on (get_or more k [])) (next_at after k) k
    next-gap k p =
        next-is (λ (j n : ℕ). Gap on more (bucket_of on (get_or more j [])) n j) k p
        (λ q. subst (λ (a : List ℕ). Gap on more (bucket_of on a) (next_at x k) k) (sym (old k q))
        (gap-old (bucket_of on (get_or tiles k [])) (next_at x k) k (omega arith) (i.next_gap k q)))
        (subst (λ (a : List ℕ). Gap on more (bucket_of on a) (head_at x b) (length tiles)) (sym new)
        (gap-old b (head_at x b) (length tiles) (omega arith) (i.head_gap b b_lt)))

    -- a tile that one before it matches: no chain has it
    enter-old : after.heads ≡ x.heads → is_found (look_up on 8 8 tiles t) ≡ true → Indexed on more after
    enter-old h e =
        let w = some-where on 8 8 tiles t (sym (look-some on 8 8 tiles t) ∙ e) in
        let m : matches on 8 8 (get_or more w.0 []) (get_or more (length tiles) []) ≡ true =
        ap (λ (a : List ℕ). matches on 8 8 a (get_or more (length tiles) [])) (old w.0 w.1) ∙ ap (matches on 8 8 (get_or tiles w.0 [])) new ∙ w.2 in
        record {
          keyed = keyed;
          head_low = λ c p. rw h (omega (arith, len, i.head_low c p));
          head_gap = λ c p. rw (h, len) (gap_more c (head_at x c) (i.head_gap c p) (λ z. (w.0, w.1, m)));
          next_low = next_low_lem;
          next_gap = next-gap;
        }

    -- a tile at the head of its chain
    module _ (headed : after.heads ≡ set x.heads b (length tiles + 1)) where
      head-case : (c : ℕ) (P : ℕ → Type 0) (q : Bool) → eqb c b ≡ q → ((c ≡ b) → P (length tiles + 1)) → ((c ≡ b → ⊥) → P (head_at x c)) → P (head_at after c)
      head-case c P true e f g =
          let s : c ≡ b = eqb-true c b e in
          rw (headed, s) (subst P (sym (get_or-set_same x.heads b (length tiles + 1) 0 (omega (arith, b_lt)))) (f s))
      head-case c P false e f g =
          let s : c ≡ b → ⊥ = eqb-false c b e in
          rw headed (subst P (sym (get_or-set_other x.heads b c (length tiles + 1) 0 s)) (g s))

      head-is : (c : ℕ) (P : ℕ → Type 0) → ((c ≡ b) → P (length tiles + 1)) → ((c ≡ b → ⊥) → P (head_at x c)) → P (head_at after c)
      head-is c P f g = head-case c P (eqb c b) refl f g

      enter-new : Indexed on more after
      enter-new =
          record {
            keyed = keyed;
            head_low = λ c p. head-is c (λ (n : ℕ). n ≤ length more) (λ e. omega (arith, len)) (λ e. omega (arith, len, i.head_low c p));
            head_gap = λ c p. subst (Gap on more c (head_at after c)) (sym len)
                (head-is c (λ (n : ℕ). Gap on more c n (length tiles + 1)) (λ e j q r. absurd (omega arith))
                (λ e. gap_more c (head_at x c) (i.head_gap c p) (λ z. absurd (e (sym (ap (λ (a : List ℕ). bucket_of on a) (sym new) ∙ z))))));
            next_low = next_low_lem;
            next_gap = next-gap;
          }

  enter-case : (r : Found) (x after : Index) → Indexed on tiles x → length tiles < 4096 → look_up on 8 8 tiles t ≡ r → Enters x (length tiles) (key on t) r after
      → Indexed on more after
  enter-case Nothing x after i room l e = enter-new x after i room e.keyed e.linked e.headed
  enter-case (At k f) x after i room l e = enter-old x after i room e.keyed e.linked (e.headed ∙ set-get_or x.heads b 0) (ap is_found l)

-- ---- the index after one tile more

pub entered : {on : Bool} {tiles : List (List ℕ)} {x : Index} {t : List ℕ} {q : ℕ} {found : Found} → Searches on tiles x t q
    → length tiles < 4096 → found ≡ look_up on 8 8 tiles t → {n : ℕ} {after : Index} → length tiles ≡ n → Enters x n q found after → Indexed on (tiles ++ t ∷ []) after
entered {on} {tiles} {x} {t} {q} {found} z room looked {after = after} long e =
    enter-case on tiles t found x after z.index room (sym looked)
    (subst (λ (k : ℕ). Enters x (length tiles) k found after) z.its (subst (λ (m : ℕ). Enters x m q found after) (sym long) e))
