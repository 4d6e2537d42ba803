-- A look-up among some tiles: the first found, over lists of tiles, and what a turn of its loop needs.
-- Assumes nothing.
use mathlib.Core.Path.{◌≡◌, refl, sym, ap, ◌∙◌, subst}
use mathlib.Core.Bool.{Bool, true, false}
use mathlib.Core.List.{List, [], ◌∷◌, ◌++◌}
use Prim.Native.Nat.{ℕ, suc, ◌+◌, ◌*◌, ◌-◌, ◌<◌, ◌≤◌}
use native.Mathlib.Nat.{add-zero, add-suc, suc-add, zero-add, sub-zero}
use native.Mathlib.Numerals.{add-one}
use native.Mathlib.Omega.{arith}
use lib.ListN.{length, get_or, take, drop}
use Rattle.flip.specs.Flips.{flip, flipped}
use Rattle.flip.specs.Matching.{match_flip}
use Rattle.flip.specs.declared.Flip.{Flip}
use Rattle.std.specs.Prelude.{Option, Some, None}
use Rattle.flip.proofs.Group.{flipped-none}
use Rattle.flip.proofs.Rows.{eq-same}
use Rattle.flip.proofs.Equivalence.{Takes, Told, match-told, not-both}
use Rattle.tileset.specs.Finding.{logical, found_or, first_found, tiles_from, tiles_in, look_up, is_found}
use Rattle.tileset.specs.declared.Logical.{Logical}
use Rattle.tileset.specs.declared.Found.{Found}
use Rattle.tileset.specs.declared.Found.TheVariants.{At, Nothing}

-- what is found, and else another
abbrev pub or_else : Found → Found → Found
or_else (At k f) r = At k f
or_else Nothing r = r

or-found : (q r : Found) → is_found q ≡ true → or_else q r ≡ q
or-found (At k f) r e = refl
or-found Nothing r e = not-both e

or-first : (m : Option Flip) (k : ℕ) (q r : Found) → found_or m k (or_else q r) ≡ or_else (found_or m k q) r
or-first (Some f) k q r = refl
or-first None k q r = refl

-- ---- the first that a test of one tile finds

module _ (test : List ℕ → Option Flip) where
  -- tiles after tiles: what is found among the first, and else among the others
  pub found-append : (k : ℕ) (xs ys : List (List ℕ)) → first_found test k (xs ++ ys) ≡ or_else (first_found test k xs) (first_found test (k + length xs) ys)
  found-append k [] ys = ap (λ (i : ℕ). first_found test i ys) (sym (add-zero k))
  found-append k (a ∷ xs) ys =
      ap (found_or (test a) k)
      (found-append (suc k) xs ys ∙ ap (λ (i : ℕ). or_else (first_found test (suc k) xs) (first_found test i ys)) (suc-add k (length xs) ∙ sym (add-suc k (length xs))))
      ∙ or-first (test a) k (first_found test (suc k) xs) (first_found test (k + suc (length xs)) ys)

  -- what an answer tells: the tile at the place passes the test
  abbrev Stands : ℕ → List (List ℕ) → Found → Type 0
  Stands k xs (At j f) = (i : ℕ) × (j.0 ≡ k + i) × (i < length xs) × (test (get_or xs i []) ≡ Some f)
  Stands k xs Nothing = Unit {0}

  or-stands : (a : List ℕ) (k : ℕ) (xs : List (List ℕ)) (m : Option Flip) (r : Found) → test a ≡ m → Stands (suc k) xs r → Stands k (a ∷ xs) (found_or m k r)
  or-stands a k xs (Some f) r e s = (0, omega arith, omega arith, e)
  or-stands a k xs None (At j f) e s = (suc s.0, omega (arith, s.1), omega (arith, s.2), s.3)
  or-stands a k xs None Nothing e s = tt

  stands : (k : ℕ) (xs : List (List ℕ)) → Stands k xs (first_found test k xs)
  stands k [] = tt
  stands k (a ∷ xs) = or-stands a k xs (test a) (first_found test (suc k) xs) refl (stands (suc k) xs)

  pub found-told : (xs : List (List ℕ)) {k : Logical} {f : Flip} → first_found test 0 xs ≡ At k f → (k.0 < length xs) × (test (get_or xs k.0 []) ≡ Some f)
  found-told xs {k} {f} e =
      let s : Stands 0 xs (At k f) = subst (Stands 0 xs) e (stands 0 xs) in
      let q : k.0 ≡ s.0 = omega (arith, s.1) in
      (omega (arith, s.2), subst (λ (i : ℕ). test (get_or xs i []) ≡ Some f) (sym q) s.3)

  -- the loop: what is found from tile k of a store on
  module _ (n : ℕ) (store : List ℕ) (count : ℕ) where
    unfoldable pub found_from : ℕ → Found
    found_from k = first_found test k (tiles_from n store k (count - k))

    one : (k : ℕ) → k < count → found_from k ≡ found_or (test (take n (drop (k * n) store))) k (found_from (k + 1))
    unfolding found_from
    one k p =
        let e : count - k ≡ suc (count - (k + 1)) = omega arith in
        rw (e, add-one k)

    pub found-start : first_found test 0 (tiles_in n store count) ≡ found_from 0
    unfolding tiles_in found_from
    found-start = rw (sub-zero count)

    pub found-miss : (k : ℕ) → k < count → test (take n (drop (k * n) store)) ≡ None → found_from k ≡ found_from (k + 1)
    found-miss k p e = one k p ∙ rw e

    pub found-hit : (k : ℕ) (f : Flip) → k < count → test (take n (drop (k * n) store)) ≡ Some f → found_from k ≡ At (logical k) f
    found-hit k f p e = one k p ∙ rw e

    pub found-end : (k : ℕ) → count ≤ k → found_from k ≡ Nothing
    unfolding found_from
    found-end k p = let e : count - k ≡ 0 = omega arith in rw e

-- ---- a look-up of one tile

module _ (on : Bool) (w h : ℕ) (t : List ℕ) where
  abbrev pub matching : List ℕ → Option Flip
  matching a = match_flip on w h a t

  pub look-start : (n : ℕ) (store : List ℕ) (count : ℕ) → look_up on w h (tiles_in n store count) t ≡ found_from matching n store count 0
  unfolding look_up
  look-start n store count = found-start matching n store count

  pub look-append : (xs ys : List (List ℕ)) → look_up on w h (xs ++ ys) t ≡ or_else (look_up on w h xs t) (first_found matching (length xs) ys)
  unfolding look_up
  look-append xs ys =
      found-append matching 0 xs ys ∙ ap (λ (i : ℕ). or_else (first_found matching 0 xs) (first_found matching i ys)) (zero-add (length xs))

  -- what is found is found again among more tiles
  pub look-more : (xs ys : List (List ℕ)) → is_found (look_up on w h xs t) ≡ true → look_up on w h (xs ++ ys) t ≡ look_up on w h xs t
  look-more xs ys p = look-append xs ys ∙ or-found (look_up on w h xs t) (first_found matching (length xs) ys) p

  -- an allowed flip takes the tile at the place to the tile that was asked for
  pub look-told : (xs : List (List ℕ)) {k : Logical} {f : Flip} → look_up on w h xs t ≡ At k f → (k.0 < length xs) × Takes on w h (get_or xs k.0 []) t f
  unfolding look_up
  look-told xs {k} e =
      let s = found-told matching xs e in
      (s.0, subst (Told on w h (get_or xs k.0 []) t) s.1 (match-told on w h (get_or xs k.0 []) t))

  module _ (z : 0 < w) (len : length t ≡ w * h) where
    pub match-self : match_flip on w h t t ≡ Some (flip false false)
    unfolding match_flip
    match-self = simp (eq-same (flipped (flip false false) w h t) t (flipped-none w h t z len))

    -- a tile that is not found, put at the end, is found there
    pub look-last : (xs : List (List ℕ)) → look_up on w h xs t ≡ Nothing → look_up on w h (xs ++ t ∷ []) t ≡ At (logical (length xs)) (flip false false)
    look-last xs e =
        look-append xs (t ∷ [])
        ∙ ap (λ (r : Found). or_else r (first_found matching (length xs) (t ∷ []))) e
        ∙ ap (λ (m : Option Flip). found_or m (length xs) Nothing) match-self
