-- "Where several apply, the lowest number is given": of a title's look-up and add.
-- Assumes nothing.
use mathlib.Core.Path.{◌≡◌}
use mathlib.Core.Bool.{not, ◌&&◌}
use mathlib.Core.List.{List, [], ◌∷◌, ◌++◌}
use Prim.Native.Nat.{ℕ, ◌+◌, ◌/◌}
use lib.Dec.{ltb, eqb}
use lib.ListN.{length}
use Rattle.words.specs.Answers.{◌when◌, lowest}
use Rattle.words.proofs.Order.{Gives, gives_more, first-lowest}
use Rattle.tileset.specs.Sets.{area, held_checks}
use Rattle.tileset.specs.Adding.{discards, no_room, counter_full}
use Rattle.tileset.specs.declared.Set.{Set}
use Rattle.tileset.proofs.Lowest.{held_gives}
use Rattle.title.specs.Titles.{title_found, title_checks, title_says, title_room, title_add_checks, title_add_says}

module _ (z : Set) (count shared len given : ℕ) where
  abbrev held : List ℕ
  held = held_checks z len

  abbrev six : List ℕ
  six = held ++ 6 when ltb (shared / area z) count ∷ []

  abbrev twice : List ℕ
  twice = six ++ 6 when ltb 65535 (count + z.stored) ∷ []

  pub title-gives : Gives (1 ∷ 3 ∷ 4 ∷ 6 ∷ 6 ∷ 6 ∷ 7 ∷ []) (title_checks z count shared len given)
  title-gives =
      gives_more (1 ∷ 3 ∷ 4 ∷ 6 ∷ 6 ∷ 6 ∷ []) twice 7 (not (eqb given (area z)))
      (gives_more (1 ∷ 3 ∷ 4 ∷ 6 ∷ 6 ∷ []) six 6 (ltb 65535 (count + z.stored))
      (gives_more (1 ∷ 3 ∷ 4 ∷ 6 ∷ []) held 6 (ltb (shared / area z) count) (held_gives z len)))

  pub title-lowest : title_says z count shared len given ≡ lowest (title_checks z count shared len given)
  unfolding title_says
  title-lowest = first-lowest (1 ∷ 3 ∷ 4 ∷ 6 ∷ 6 ∷ 6 ∷ 7 ∷ []) (title_checks z count shared len given) tt title-gives

pub title-add-lowest : (z : Set) (count : ℕ) (common store pixels : List ℕ)
    → title_add_says z count common store pixels ≡ lowest (title_add_checks z count common store pixels)
unfolding title_add_says
title-add-lowest z count common store pixels =
    let looks = title_checks z count (length common) (length store) (length pixels) in
    let gone = discards z (title_found z count common store pixels) in
    let none = not gone && no_room z (title_room z count (length store)) in
    first-lowest (1 ∷ 3 ∷ 4 ∷ 6 ∷ 6 ∷ 6 ∷ 7 ∷ 12 ∷ 13 ∷ []) (title_add_checks z count common store pixels) tt
    (gives_more (1 ∷ 3 ∷ 4 ∷ 6 ∷ 6 ∷ 6 ∷ 7 ∷ 12 ∷ []) (looks ++ 12 when none ∷ []) 13 (gone && counter_full z)
    (gives_more (1 ∷ 3 ∷ 4 ∷ 6 ∷ 6 ∷ 6 ∷ 7 ∷ []) looks 12 none (title-gives z count (length common) (length store) (length pixels))))
