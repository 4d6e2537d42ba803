-- "A picture's palette index too large": of a conversion's checks it alone gives the field's number, and exactly when the mode's bits cannot hold it.
-- Assumes nothing.
use mathlib.Core.Path.{◌≡◌, refl, sym, ap, ◌∙◌}
use mathlib.Core.Bool.{Bool, true, false, not, cond, ◌&&◌}
use mathlib.Core.List.{List, [], ◌∷◌, ◌++◌}
use Prim.Native.Nat.{ℕ, ◌*◌, ◌^◌, ◌≤◌}
use lib.Dec.{ltb, eqb}
use lib.ListN.{length}
use lib.Pow.{pow_pos}
use borrow.Author.Tests.{lt-ltb, le-ltb, ltb-false, not-true}
use Rattle.std.specs.Prelude.{Some, None}
use Rattle.words.specs.Answers.{◌when◌, first_applying}
use Rattle.words.proofs.Order.{Never, never-when, only-given, then-given}
use Rattle.mode.specs.Table.{row, has_depth, pce-sprite}
use Rattle.mapentry.specs.Entry.{misfit_of, misfit_says}
use Rattle.mapentry.specs.declared.Misfit.TheVariants.{Palette}
use Rattle.picture.specs.Entries.{entry_as}
use Rattle.picture.specs.Converting.{places, need_of, picture_room, is_span, size_checks, convert_says}
use Rattle.picture.specs.declared.Settings.{Settings}
use Rattle.picture.proofs.Room.{◌also◌}

-- every field of an entry that has nothing but a palette index fits, but for that
alone : (b : Bool) → misfit_says (cond (not b) (Some Palette) None) ≡ misfit_says (Some Palette) when not b
alone true = refl
alone false = refl

pub palette-field : (m p : ℕ) → misfit_says (misfit_of m (entry_as 0 p false false)) ≡ misfit_says (Some Palette) when not (ltb p (2 ^ (row m).palette))
palette-field m p =
    rw (lt-ltb 0 (2 ^ (row m).tile) (pow_pos (row m).tile), lt-ltb 0 (2 ^ (row m).flips) (pow_pos (row m).flips), lt-ltb 0 (2 ^ (row m).priority) (pow_pos (row m).priority))
    (alone (ltb p (2 ^ (row m).palette)))

module _ (z : Settings) (pixels : List ℕ) (tile_space map_space : ℕ) where
  -- the checks before the palette index's, and after it
  abbrev sooner_checks : List ℕ
  sooner_checks =
      size_checks z.mode z.depth z.columns z.rows ++ 5 when (z.flip && eqb (row z.mode).flips 0) ∷ 7 when not (eqb (length pixels) (64 * places z)) ∷ []

  abbrev later_checks : List ℕ
  later_checks = 11 when ltb map_space (places z * (row z.mode).entry) ∷ 12 when ltb (picture_room z tile_space) (need_of 8 8 z pixels) ∷ []

  abbrev pub sooner : ℕ
  sooner = first_applying sooner_checks

  abbrev held : Bool
  held = ltb z.palette (2 ^ (row z.mode).palette)

  by-palette : convert_says z pixels tile_space map_space ≡ first_applying (sooner_checks ++ misfit_says (Some Palette) when not held ∷ later_checks)
  unfolding convert_says
  by-palette = ap (λ (n : ℕ). first_applying (sooner_checks ++ n ∷ later_checks)) (palette-field z.mode z.palette)

  sooner-not : Never (misfit_says (Some Palette)) sooner_checks
  sooner-not =
      never-when (misfit_says (Some Palette)) refl 1 (ltb 15 z.mode) refl
      also never-when (misfit_says (Some Palette)) refl 2 (eqb z.mode pce-sprite) refl
      also never-when (misfit_says (Some Palette)) refl 3 (not (has_depth z.mode z.depth)) refl
      also never-when (misfit_says (Some Palette)) refl 4 (not (is_span z.columns && is_span z.rows)) refl
      also never-when (misfit_says (Some Palette)) refl 5 (z.flip && eqb (row z.mode).flips 0) refl
      also never-when (misfit_says (Some Palette)) refl 7 (not (eqb (length pixels) (64 * places z))) refl
      also tt

  later-not : Never (misfit_says (Some Palette)) later_checks
  later-not =
      never-when (misfit_says (Some Palette)) refl 11 (ltb map_space (places z * (row z.mode).entry)) refl
      also never-when (misfit_says (Some Palette)) refl 12 (ltb (picture_room z tile_space) (need_of 8 8 z pixels)) refl
      also tt

  pub refused-for-palette : (convert_says z pixels tile_space map_space ≡ misfit_says (Some Palette) → (sooner ≡ 0) × (2 ^ (row z.mode).palette ≤ z.palette))
      × (sooner ≡ 0 → 2 ^ (row z.mode).palette ≤ z.palette → convert_says z pixels tile_space map_space ≡ misfit_says (Some Palette))
  refused-for-palette = (
    λ e.
        let given = only-given (misfit_says (Some Palette)) refl sooner_checks later_checks (not held) sooner-not later-not (sym by-palette ∙ e) in
        (given.0, ltb-false z.palette (2 ^ (row z.mode).palette) (not-true held given.1)),
    λ passed above.
        by-palette ∙ then-given (misfit_says (Some Palette)) refl sooner_checks later_checks (not held) passed (ap not (le-ltb z.palette (2 ^ (row z.mode).palette) above)),
  )
