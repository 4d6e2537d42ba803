-- "A look-up answers a place with its flip, or nothing."
-- Assumes nothing.
use Rattle.std.specs.Prelude.{Bool, true, false, List, [], ◌∷◌, map, ℕ, zero, suc, ◌*◌, ◌%◌, ◌^◌, take, drop, Option, Some, None}
use Rattle.words.specs.Answers.{unless}
use Rattle.flip.specs.Matching.{match_flip}
use Rattle.tileset.specs.Sets.{area}
use Rattle.tileset.specs.declared.Set.{Set}
use Rattle.tileset.specs.declared.Found.{Found}
use Rattle.tileset.specs.declared.Found.TheVariants.{At, Nothing}
use Rattle.tileset.specs.declared.Place.{Place}
use Rattle.flip.specs.declared.Flip.{Flip}
use Rattle.tileset.specs.declared.Logical.{Logical}

-- "Adding and look-up first cut the given pixels to their low depth bits."
unfoldable pub cut_to : ℕ → List ℕ → List ℕ
cut_to depth pixels = map (λ p. p % 2 ^ depth) pixels

-- "A set lives in a lent store, a byte per pixel": some tiles of n pixels, from tile k on.
abbrev pub tiles_from : ℕ → List ℕ → ℕ → ℕ → List (List ℕ)
tiles_from n store k zero = []
tiles_from n store k (suc count) = take n (drop (k * n) store) ∷ tiles_from n store (suc k) count

unfoldable pub tiles_in : ℕ → List ℕ → ℕ → List (List ℕ)
tiles_in n store count = tiles_from n store 0 count

-- "The first stored tile": of some tiles, the first having place k, the first that a test of one tile finds, under a flip. Its place is a logical number.
abbrev pub logical : ℕ → Logical
logical n = record { 0 = n }

abbrev pub found_or : Option Flip → ℕ → Found → Found
found_or (Some f) k rest = At (logical k) f
found_or None k rest = rest

abbrev pub first_found : (List ℕ → Option Flip) → ℕ → List (List ℕ) → Found
first_found test k [] = Nothing
first_found test k (a ∷ rest) = found_or (test a) k (first_found test (suc k) rest)

unfoldable pub look_up : Bool → ℕ → ℕ → List (List ℕ) → List ℕ → Found
look_up on w h tiles tile = first_found (λ a. match_flip on w h a tile) 0 tiles

-- What a look-up of pixels finds in a set.
unfoldable pub found_in : Set → List ℕ → List ℕ → Found
found_in z store pixels = look_up z.flips z.width z.height (tiles_in (area z) store z.stored) (cut_to z.depth pixels)

abbrev pub is_found : Found → Bool
is_found (At k f) = true
is_found Nothing = false

-- The answer's values for each case.
abbrev pub no_place : ℕ → Place
no_place n = record { refusal = n; found = false; place = 0; flip_h = false; flip_v = false }

abbrev pub place_of : Found → Place
place_of (At k f) = record { refusal = 0; found = true; place = k.0; flip_h = f.h; flip_v = f.v }
place_of Nothing = no_place 0

abbrev pub placed : ℕ → Found → Place
placed n found = unless n (place_of found) (no_place n)
