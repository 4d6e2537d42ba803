-- "Where several apply, the lowest number is given": of an entry's checks, field by field, and of a reading's.
-- Assumes nothing.
use mathlib.Core.Path.{◌≡◌, refl, sym, ◌∙◌}
use mathlib.Core.Bool.{Bool, true, false, not, cond, ◌&&◌}
use mathlib.Core.List.{List, [], ◌∷◌, map}
use Rattle.std.specs.Prelude.{Some, None}
use Prim.Native.Nat.{ℕ, ◌^◌}
use lib.Dec.{ltb, eqb}
use Rattle.words.specs.Answers.{◌when◌, first_applying, lowest}
use Rattle.words.specs.Bytes.{bit}
use Rattle.words.proofs.Answers.{last-given}
use Rattle.words.proofs.Order.{gives-when, first_alike, first-lowest}
use Rattle.mode.specs.Table.{row, pce-sprite}
use Rattle.mapentry.specs.Entry.{misfit_of, misfit_says, entry_says, read_checks, read_says}
use Rattle.mapentry.specs.declared.Mapentry.{Mapentry}
use Rattle.mapentry.specs.declared.Misfit.{Misfit}
use Rattle.mapentry.specs.declared.Misfit.TheVariants.{Tile, Palette, Flip, Priority}

-- The fields, "checked in that order", and whether each fits its bits.
abbrev pub fields : List Misfit
fields = Tile ∷ Palette ∷ Flip ∷ Priority ∷ []

abbrev pub numbers : List ℕ
numbers = map (λ (f : Misfit). misfit_says (Some f)) fields

abbrev pub fits : ℕ → Mapentry → Misfit → Bool
fits m e Tile = ltb e.tile (2 ^ (row m).tile)
fits m e Palette = ltb e.palette (2 ^ (row m).palette)
fits m e Flip = ltb (bit e.flip_h) (2 ^ (row m).flips) && ltb (bit e.flip_v) (2 ^ (row m).flips)
fits m e Priority = ltb (bit e.priority) (2 ^ (row m).priority)

-- An entry's checks with one for each field.
abbrev fields_only : ℕ → Mapentry → List ℕ
fields_only m e = map (λ (f : Misfit). misfit_says (Some f) when not (fits m e f)) fields

abbrev pub field_checks : ℕ → Mapentry → List ℕ
field_checks m e = 1 when ltb 15 m ∷ 2 when eqb m pce-sprite ∷ fields_only m e

each-field : (t p h v q : Bool)
    → misfit_says (cond (not t) (Some Tile) (cond (not p) (Some Palette) (cond (not h) (Some Flip) (cond (not v) (Some Flip) (cond (not q) (Some Priority) None)))))
    ≡ first_applying (misfit_says (Some Tile) when not t ∷ misfit_says (Some Palette) when not p ∷ misfit_says (Some Flip) when not (h && v) ∷ misfit_says (Some Priority) when not q ∷ [])
each-field false p h v q = refl
each-field true false h v q = refl
each-field true true false v q = refl
each-field true true true false q = refl
each-field true true true true false = refl
each-field true true true true true = refl

module _ (m : ℕ) (e : Mapentry) where
  -- the number is that of the first field that does not fit, in every mode
  pub which-field : entry_says m e ≡ first_applying (field_checks m e)
  unfolding entry_says
  which-field =
      first_alike (1 when ltb 15 m ∷ 2 when eqb m pce-sprite ∷ []) (misfit_says (misfit_of m e) ∷ []) (fields_only m e)
      (sym (last-given (misfit_says (misfit_of m e)))
      ∙ each-field (fits m e Tile) (fits m e Palette) (ltb (bit e.flip_h) (2 ^ (row m).flips)) (ltb (bit e.flip_v) (2 ^ (row m).flips)) (fits m e Priority))

  pub entry-lowest : entry_says m e ≡ lowest (field_checks m e)
  entry-lowest = which-field ∙ first-lowest (1 ∷ 2 ∷ numbers) (field_checks m e) tt (search gives-when depth 20)

pub read-lowest : (m len : ℕ) → read_says m len ≡ lowest (read_checks m len)
unfolding read_says
read-lowest m len = first-lowest (1 ∷ 2 ∷ 7 ∷ []) (read_checks m len) tt (search gives-when depth 20)
