-- Matching under the allowed flips is an equivalence on the tiles of one size.
-- Assumes nothing.
use mathlib.Core.Path.{◌≡◌, refl, sym, ap, ◌∙◌}
use mathlib.Core.Bool.{Bool, true, false, cond, xor}
use mathlib.Core.List.{List, [], ◌∷◌}
use Prim.Native.Nat.{ℕ, ◌*◌, ◌<◌}
use native.Mathlib.Omega.{arith}
use lib.ListN.{length}
use Rattle.words.specs.Bytes.{same}
use Rattle.flip.specs.Flips.{flip, flipped, after}
use Rattle.flip.specs.Matching.{first_flip, match_flip, is_under, matches}
use Rattle.flip.specs.declared.Flip.{Flip}
use Rattle.std.specs.Prelude.{Option, Some, None}
use Rattle.flip.proofs.Group.{flipped-flipped, flipped-none, flipped-back}
use Rattle.flip.proofs.Rows.{eq-same, true_same}

pub not-both : {P : Type 0} → false ≡ true → P
not-both h = let z : ◌≡◌ {A = ℕ} 0 1 = cc in absurd (omega arith)

-- a flip that is tried
abbrev pub Allowed : Bool → Flip → Type 0
Allowed true f = Unit {0}
Allowed false f = (f.h ≡ false) × (f.v ≡ false)

allowed-none : (on : Bool) → Allowed on (flip false false)
allowed-none true = tt
allowed-none false = (refl, refl)

allowed-after : (on : Bool) (f g : Flip) → Allowed on f → Allowed on g → Allowed on (after f g)
unfolding xor
allowed-after true f g p q = tt
allowed-after false f g p q = simp (p.0, p.1, q.0, q.1) (refl, refl)

module _ (on : Bool) (w h : ℕ) where
  -- a flip takes tile a to tile b
  abbrev pub Takes : List ℕ → List ℕ → Flip → Type 0
  Takes a b f = Allowed on f × (flipped f w h a ≡ b)

  abbrev pub Matches : List ℕ → List ℕ → Type 0
  Matches a b = (f : Flip) × Takes a b f

  -- what an answer says of two tiles
  abbrev pub Told : List ℕ → List ℕ → Option Flip → Type 0
  Told a b (Some f) = Takes a b f
  Told a b None = Matches a b → ⊥

  module _ (a b : List ℕ) where
    abbrev is : Flip → Bool
    is f = same (flipped f w h a) b

    hit : (f : Flip) → Allowed on f → is f ≡ true → Takes a b f
    hit f al e = (al, true_same (flipped f w h a) b e)

    miss : (f : Flip) → is f ≡ false → flipped f w h a ≡ b → ⊥
    miss f e q = not-both (sym e ∙ eq-same (flipped f w h a) b q)

    cases : (P : Option Flip → Type 0) (c : Bool) (x y : Option Flip) → (c ≡ true → P x) → (c ≡ false → P y) → P (cond c x y)
    cases P true x y p q = p refl
    cases P false x y p q = q refl

    none : is (flip false false) ≡ false → is (flip true false) ≡ false → is (flip false true) ≡ false → is (flip true true) ≡ false
        → (fh fv : Bool) → flipped (flip fh fv) w h a ≡ b → ⊥
    none e0 e1 e2 e3 false false = miss (flip false false) e0
    none e0 e1 e2 e3 true false = miss (flip true false) e1
    none e0 e1 e2 e3 false true = miss (flip false true) e2
    none e0 e1 e2 e3 true true = miss (flip true true) e3

    tried : (o : Bool) → on ≡ o → is (flip false false) ≡ false → Told a b (first_flip (cond o (flip true false ∷ flip false true ∷ flip true true ∷ []) []) is)
    tried true o e0 =
        cases (Told a b) (is (flip true false)) _ _ (hit (flip true false) (rw o tt)) (λ e1.
        cases (Told a b) (is (flip false true)) _ _ (hit (flip false true) (rw o tt)) (λ e2.
        cases (Told a b) (is (flip true true)) _ _ (hit (flip true true) (rw o tt)) (λ e3.
        λ m. none e0 e1 e2 e3 m.0.h m.0.v m.1.1)))
    tried false o e0 = λ m.
        let al : Allowed false m.0 = rw o at m.1.0 in
        miss (flip false false) e0 (rw (al.0, al.1) at m.1.1)

    -- the answer is an allowed flip that takes a to b, or there is none
    pub match-told : Told a b (match_flip on w h a b)
    unfolding match_flip
    match-told = cases (Told a b) (is (flip false false)) _ _ (hit (flip false false) (allowed-none on)) (tried on refl)

    told_under : (m : Option Flip) → Told a b m → is_under m ≡ true → Matches a b
    told_under (Some f) t e = (f, t)
    told_under None t e = not-both e

    told-never : (m : Option Flip) → Told a b m → Matches a b → is_under m ≡ true
    told-never (Some f) t k = refl
    told-never None t k = absurd (t k)

    pub matches-true : matches on w h a b ≡ true → Matches a b
    matches-true e = told_under (match_flip on w h a b) match-told e

    pub true-matches : Matches a b → matches on w h a b ≡ true
    true-matches k = told-never (match_flip on w h a b) match-told k

module _ (on : Bool) (w h : ℕ) (z : 0 < w) where
  pub matches-refl : (a : List ℕ) → length a ≡ w * h → matches on w h a a ≡ true
  matches-refl a len = true-matches on w h a a (flip false false, (allowed-none on, flipped-none w h a z len))

  pub matches-sym : (a b : List ℕ) → length a ≡ w * h → matches on w h a b ≡ true → matches on w h b a ≡ true
  matches-sym a b len e =
      let m = matches-true on w h a b e in
      true-matches on w h b a (m.0, (m.1.0, ap (flipped m.0 w h) (sym m.1.1) ∙ flipped-back w h a z m.0 len))

  pub matches-trans : (a b c : List ℕ) → matches on w h a b ≡ true → matches on w h b c ≡ true → matches on w h a c ≡ true
  matches-trans a b c e k =
      let m = matches-true on w h a b e in
      let n = matches-true on w h b c k in
      true-matches on w h a c (
        after m.0 n.0,
        (
          allowed-after on m.0 n.0 m.1.0 n.1.0,
          sym (flipped-flipped w h a z n.0 m.0) ∙ ap (flipped n.0 w h) m.1.1 ∙ n.1.1,
        ),
      )
