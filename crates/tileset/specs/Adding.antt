-- "With discarding on, a match adds one to discarded and stores nothing; otherwise the tile goes at the end, or 12."
-- Assumes nothing.
use Rattle.std.specs.Prelude.{◌≡◌, Bool, not, cond, ◌&&◌, List, [], ◌∷◌, ◌++◌, ℕ, ◌+◌, ◌*◌, leb, eqb, length}
use Rattle.std.proofs.lemmas.List.Edits.{sets}
use Rattle.words.specs.Answers.{◌when◌, first_applying, unless}
use Rattle.tileset.specs.Sets.{area, room_in, look_checks, with_counts, answered_set}
use Rattle.tileset.specs.Finding.{cut_to, found_in, is_found}
use Rattle.tileset.specs.declared.Set.{Set}
use Rattle.tileset.specs.declared.SetAnswer.{SetAnswer}
use Rattle.tileset.specs.declared.Found.{Found}

-- Over any found place and any room: whether a tile is discarded, and the two numbers that are left to give.
abbrev pub discards : Set → Found → Bool
discards z found = z.discarding && is_found found

-- "No room for the tiles" (12); "discarding on, discard counter 4,294,967,295, and an added tile matches" (13).
abbrev pub no_room : Set → ℕ → Bool
no_room z room = leb room z.stored

abbrev pub counter_full : Set → Bool
counter_full z = eqb z.discarded 4294967295

abbrev pub end_checks : Set → Found → ℕ → List ℕ
end_checks z found room = 12 when (not (discards z found) && no_room z room) ∷ 13 when (discards z found && counter_full z) ∷ []

-- The set and the store after.
abbrev pub one_stored : Set → Set
one_stored z = with_counts z (z.stored + 1) z.discarded

abbrev pub one_discarded : Set → Set
one_discarded z = with_counts z z.stored (z.discarded + 1)

abbrev pub at_end : Set → List ℕ → List ℕ → List ℕ
at_end z store pixels = sets store (z.stored * area z) (cut_to z.depth pixels)

abbrev pub added_by : Set → Found → Set
added_by z found = cond (discards z found) (one_discarded z) (one_stored z)

abbrev pub store_by : Set → Found → List ℕ → List ℕ → List ℕ
store_by z found store pixels = cond (discards z found) store (at_end z store pixels)

-- Over what a look-up finds in the set, and the set's room.
abbrev pub add_checks : Set → List ℕ → List ℕ → List ℕ
add_checks z store pixels = look_checks z (length store) (length pixels) ++ end_checks z (found_in z store pixels) (room_in z (length store))

unfoldable pub add_says : Set → List ℕ → List ℕ → ℕ
add_says z store pixels = first_applying (add_checks z store pixels)

unfoldable pub added : Set → List ℕ → List ℕ → Set
added z store pixels = added_by z (found_in z store pixels)

unfoldable pub store_with : Set → List ℕ → List ℕ → List ℕ
store_with z store pixels = store_by z (found_in z store pixels) store pixels

-- The promise of adding: the set handed back as it came by a refusal, and the store "untouched".
pub record Adds (refusal : ℕ) (set next : Set) (before with : List ℕ) (r : SetAnswer) (after : List ℕ) : Type 0 where
  pub answer : r ≡ answered_set refusal next set
  pub lent : after ≡ unless refusal with before

abbrev pub AddsTile : Set → List ℕ → List ℕ → SetAnswer → List ℕ → Type 0
AddsTile z store pixels r after = Adds (add_says z store pixels) z (added z store pixels) store (store_with z store pixels) r after
