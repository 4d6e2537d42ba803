-- The last check of a conversion is the only one that answers 12.
-- Assumes nothing.
use mathlib.Core.Path.{◌≡◌, refl}
use mathlib.Core.Bool.{Bool, true, false, not, ◌&&◌}
use mathlib.Core.List.{List, []}
use Prim.Native.Nat.{ℕ, ◌*◌, ◌<◌}
use native.Mathlib.Omega.{arith}
use lib.Dec.{ltb, eqb}
use lib.ListN.{length}
use borrow.Author.Tests.{ltb-true, eqb-false}
use Rattle.std.specs.Prelude.{Option, Some, None}
use Rattle.words.specs.Answers.{◌when◌}
use Rattle.words.proofs.Order.{Never, never-when, only-given}
use Rattle.mode.specs.Table.{row, has_depth, pce-sprite}
use Rattle.mapentry.specs.Entry.{misfit_of, misfit_says}
use Rattle.mapentry.specs.declared.Misfit.{Misfit}
use Rattle.mapentry.specs.declared.Misfit.TheVariants.{Tile, Palette, Flip, Priority}
use Rattle.picture.specs.Entries.{entry_as}
use Rattle.picture.specs.Converting.{places, need_of, picture_room, is_span, asked_checks, convert_says}
use Rattle.picture.specs.Inner.{asked_says}
use Rattle.picture.specs.declared.Settings.{Settings}

-- what is known of each check of a list, one after the other
infixr 20 ◌also◌
pub ◌also◌ : {A B : Type 0} → A → B → A × B
a also b = (a, b)

misfit-not : (f : Option Misfit) → misfit_says f ≡ 12 → ⊥
misfit-not (Some Tile) = eqb-false (misfit_says (Some Tile)) 12 refl
misfit-not (Some Palette) = eqb-false (misfit_says (Some Palette)) 12 refl
misfit-not (Some Flip) = eqb-false (misfit_says (Some Flip)) 12 refl
misfit-not (Some Priority) = eqb-false (misfit_says (Some Priority)) 12 refl
misfit-not None = eqb-false (misfit_says None) 12 refl

pub above : (room need : ℕ) → 12 when ltb room need ≡ 12 → room < need
above room need e = case (ltb room need) refl e
  where
    case : (b : Bool) → ltb room need ≡ b → 12 when b ≡ 12 → room < need
    case true q e = ltb-true room need q
    case false q e = let no : ⊥ = omega arith in absurd no

module _ (z : Settings) (pixels : List ℕ) (tile_space map_space : ℕ) where
  asked-not : Never 12 (asked_checks z (length pixels) map_space)
  asked-not =
      never-when 12 refl 1 (ltb 15 z.mode) refl
      also never-when 12 refl 2 (eqb z.mode pce-sprite) refl
      also never-when 12 refl 3 (not (has_depth z.mode z.depth)) refl
      also never-when 12 refl 4 (not (is_span z.columns && is_span z.rows)) refl
      also never-when 12 refl 5 (z.flip && eqb (row z.mode).flips 0) refl
      also never-when 12 refl 7 (not (eqb (length pixels) (64 * places z))) refl
      also misfit-not (misfit_of z.mode (entry_as 0 z.palette false false))
      also never-when 12 refl 11 (ltb map_space (places z * (row z.mode).entry)) refl
      also tt

  pub convert-full : convert_says z pixels tile_space map_space ≡ 12 → (asked_says z (length pixels) map_space ≡ 0) × (picture_room z tile_space < need_of 8 8 z pixels)
  unfolding asked_says convert_says
  convert-full e =
      let full = ltb (picture_room z tile_space) (need_of 8 8 z pixels) in
      let given = only-given 12 refl (asked_checks z (length pixels) map_space) [] full asked-not tt e in
      (given.0, ltb-true (picture_room z tile_space) (need_of 8 8 z pixels) given.1)
