-- A look-up finds a tile where one of the tiles matches it, and what a tile more among them changes.
-- Assumes nothing.
use mathlib.Core.Path.{◌≡◌, refl, sym, ap, ◌∙◌}
use mathlib.Core.Bool.{Bool, true, false, ◌||◌, or_assoc, or-false}
use mathlib.Core.List.{List, [], ◌∷◌, ◌++◌}
use mathlib.Core.Logic.{⊎_elim}
use Prim.Native.Nat.{ℕ, zero, suc, ◌+◌, ◌<◌}
use native.Mathlib.Nat.{eq-or-lt_of_le}
use native.Mathlib.Omega.{arith}
use lib.ListN.{length, get_or, length-append, get_or-append}
use lib.Seq.{get_or-append_seam}
use Rattle.words.proofs.Loops.{or-true}
use Rattle.words.proofs.Items.{neither_left, neither_right}
use Rattle.flip.specs.Matching.{match_flip, is_under, matches}
use Rattle.std.specs.Prelude.{Option, Some, None}
use Rattle.flip.proofs.Equivalence.{matches-trans}
use Rattle.tileset.specs.Finding.{found_or, first_found, look_up, is_found}
use Rattle.tileset.specs.Matched.{matches_some, Apart}
use Rattle.flip.specs.declared.Flip.{Flip}
use Rattle.tileset.specs.declared.Found.{Found}

found-or : (m : Option Flip) (k : ℕ) (r : Found) → is_found (found_or m k r) ≡ (is_under m || is_found r)
found-or (Some f) k r = refl
found-or None k r = refl

module _ (on : Bool) (w h : ℕ) where
  found_some : (tile : List ℕ) (k : ℕ) (tiles : List (List ℕ)) → is_found (first_found (λ a. match_flip on w h a tile) k tiles) ≡ matches_some on w h tiles tile
  found_some tile k [] = refl
  found_some tile k (a ∷ rest) =
      found-or (match_flip on w h a tile) k (first_found (λ a. match_flip on w h a tile) (suc k) rest)
      ∙ ap (λ (b : Bool). matches on w h a tile || b) (found_some tile (suc k) rest)

  -- a look-up finds a tile exactly where one of the tiles matches it
  pub look-some : (tiles : List (List ℕ)) (tile : List ℕ) → is_found (look_up on w h tiles tile) ≡ matches_some on w h tiles tile
  unfolding look_up
  look-some tiles tile = found_some tile 0 tiles

  pub some_more : (tiles : List (List ℕ)) (t u : List ℕ) → matches_some on w h (tiles ++ t ∷ []) u ≡ (matches_some on w h tiles u || matches on w h t u)
  some_more [] t u = or-false (matches on w h t u)
  some_more (a ∷ rest) t u =
      ap (λ (b : Bool). matches on w h a u || b) (some_more rest t u) ∙ sym (or_assoc (matches on w h a u) (matches_some on w h rest u) (matches on w h t u))

  none-at : (tiles : List (List ℕ)) (t : List ℕ) → matches_some on w h tiles t ≡ false → (i : ℕ) → i < length tiles → matches on w h (get_or tiles i []) t ≡ false
  none-at [] t e i lt = let no : ⊥ = omega arith in absurd no
  none-at (a ∷ rest) t e zero lt = neither_left (matches on w h a t) (matches_some on w h rest t) e
  none-at (a ∷ rest) t e (suc i) lt = none-at rest t (neither_right (matches on w h a t) (matches_some on w h rest t) e) i (omega arith)

  pub apart_none : Apart on w h []
  unfolding Apart
  apart_none i j lt inside = let no : ⊥ = omega arith in absurd no

  -- a tile that matches none of them may join them
  pub apart_more : (tiles : List (List ℕ)) (t : List ℕ) → matches_some on w h tiles t ≡ false → Apart on w h tiles → Apart on w h (tiles ++ t ∷ [])
  unfolding Apart
  apart_more tiles t e apart i j lt inside =
      let len : length (tiles ++ t ∷ []) ≡ length tiles + 1 = length-append tiles (t ∷ []) in
      ⊎_elim
      (λ (q : j ≡ length tiles).
      let here : i < length tiles = omega arith in
      rw (q, get_or-append_seam tiles t [] [], get_or-append tiles (t ∷ []) [] i here) (none-at tiles t e i here))
      (λ (l : j < length tiles).
      let here : i < length tiles = omega arith in
      rw (get_or-append tiles (t ∷ []) [] i here, get_or-append tiles (t ∷ []) [] j l) (apart i j lt l))
      (eq-or-lt_of_le (omega arith))

  -- the stored tiles match what the tiles seen match
  abbrev pub Alike : List (List ℕ) → List (List ℕ) → Type 0
  Alike stored seen = (u : List ℕ) → matches_some on w h stored u ≡ matches_some on w h seen u

  pub alike-kept : (stored seen : List (List ℕ)) (t : List ℕ) → Alike stored seen → Alike (stored ++ t ∷ []) (seen ++ t ∷ [])
  alike-kept stored seen t same u =
      some_more stored t u ∙ ap (λ (b : Bool). b || matches on w h t u) (same u) ∙ sym (some_more seen t u)

  module _ (z : 0 < w) where
    some-case : (a t u : List ℕ) (rest : Bool) (b : Bool) → matches on w h a t ≡ b → (b || rest) ≡ true → matches on w h t u ≡ true
        → (r : Bool) → (rest ≡ true → r ≡ true) → (matches on w h a u || r) ≡ true
    some-case a t u rest true e f m r next = rw (matches-trans on w h z a t u e m)
    some-case a t u rest false e f m r next = rw (next f) (or-true (matches on w h a u))

    -- what matches a tile that matches one of them matches one of them
    pub some-trans : (tiles : List (List ℕ)) (t u : List ℕ) → matches_some on w h tiles t ≡ true → matches on w h t u ≡ true → matches_some on w h tiles u ≡ true
    some-trans [] t u e m = e
    some-trans (a ∷ rest) t u e m =
        some-case a t u (matches_some on w h rest t) (matches on w h a t) refl e m (matches_some on w h rest u) (λ f. some-trans rest t u f m)

    absorbed : (a b : Bool) → (b ≡ true → a ≡ true) → a ≡ (a || b)
    absorbed true b f = refl
    absorbed false true f = f refl
    absorbed false false f = refl

    pub alike-gone : (stored seen : List (List ℕ)) (t : List ℕ) → Alike stored seen → matches_some on w h stored t ≡ true → Alike stored (seen ++ t ∷ [])
    alike-gone stored seen t same e u =
        absorbed (matches_some on w h stored u) (matches on w h t u) (some-trans stored t u e)
        ∙ ap (λ (b : Bool). b || matches on w h t u) (same u)
        ∙ sym (some_more seen t u)
