-- Matching: whether one tile is another under an allowed flip.
-- Assumes nothing.
use Rattle.std.specs.Prelude.{Bool, true, false, cond, List, [], ◌∷◌, ℕ, Option, Some, None}
use Rattle.words.specs.Bytes.{same}
use Rattle.flip.specs.Flips.{flip, flipped}
use Rattle.flip.specs.declared.Flip.{Flip}

-- "Flips tried as identity, h, v, hv; identity only with flips off."
abbrev pub allowed : Bool → List Flip
allowed on = flip false false ∷ cond on (flip true false ∷ flip false true ∷ flip true true ∷ []) []

-- The first of some flips that is as asked.
abbrev pub first_flip : List Flip → (Flip → Bool) → Option Flip
first_flip [] asked = None
first_flip (f ∷ fs) asked = cond (asked f) (Some f) (first_flip fs asked)

-- The first allowed flip under which tile a is tile b.
unfoldable pub match_flip : Bool → ℕ → ℕ → List ℕ → List ℕ → Option Flip
match_flip on w h a b = first_flip (allowed on) (λ f. same (flipped f w h a) b)

-- Whether there is one: tile a matches tile b.
abbrev pub is_under : Option Flip → Bool
is_under (Some f) = true
is_under None = false

abbrev pub matches : Bool → ℕ → ℕ → List ℕ → List ℕ → Bool
matches on w h a b = is_under (match_flip on w h a b)
