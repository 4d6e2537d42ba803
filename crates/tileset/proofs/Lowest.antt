-- "Where several apply, the lowest number is given": for new and reset sets, and for look-ups.
-- Assumes nothing.
use mathlib.Core.Path.{◌≡◌}
use mathlib.Core.Bool.{not}
use mathlib.Core.List.{[], ◌∷◌}
use Prim.Native.Nat.{ℕ}
use lib.Dec.{ltb, eqb}
use Rattle.words.specs.Answers.{lowest}
use Rattle.words.proofs.Order.{Gives, gives-when, first-lowest, gives_more}
use Rattle.mode.specs.Table.{has_depth}
use Rattle.tileset.specs.Sets.{is_size, set_checks, set_says, area, room_in, held_checks, look_checks, look_says}
use Rattle.tileset.specs.declared.Set.{Set}

module _ (m d w h : ℕ) where
  pub set_gives : Gives (1 ∷ 3 ∷ 4 ∷ []) (set_checks m d w h)
  set_gives = (gives-when 1 (ltb 15 m), (gives-when 3 (not (has_depth m d)), (gives-when 4 (not (is_size m w h)), tt)))

  pub set-lowest : set_says m d w h ≡ lowest (set_checks m d w h)
  unfolding set_says
  set-lowest = first-lowest (1 ∷ 3 ∷ 4 ∷ []) (set_checks m d w h) tt set_gives

module _ (z : Set) (len : ℕ) where
  pub held_gives : Gives (1 ∷ 3 ∷ 4 ∷ 6 ∷ []) (held_checks z len)
  held_gives =
      gives_more (1 ∷ 3 ∷ 4 ∷ []) (set_checks z.mode z.depth z.width z.height) 6 (ltb (room_in z len) z.stored)
      (set_gives z.mode z.depth z.width z.height)

  pub look-gives : (given : ℕ) → Gives (1 ∷ 3 ∷ 4 ∷ 6 ∷ 7 ∷ []) (look_checks z len given)
  look-gives given = gives_more (1 ∷ 3 ∷ 4 ∷ 6 ∷ []) (held_checks z len) 7 (not (eqb given (area z))) held_gives

  pub look-lowest : (given : ℕ) → look_says z len given ≡ lowest (look_checks z len given)
  unfolding look_says
  look-lowest given = first-lowest (1 ∷ 3 ∷ 4 ∷ 6 ∷ 7 ∷ []) (look_checks z len given) tt (look-gives given)
