-- "Where several apply, the lowest number is given": of an add.
-- Assumes nothing.
use mathlib.Core.Path.{◌≡◌}
use mathlib.Core.Bool.{not, ◌&&◌}
use mathlib.Core.List.{List, [], ◌∷◌}
use Prim.Native.Nat.{ℕ}
use lib.Dec.{ltb, eqb}
use lib.ListN.{length}
use Rattle.words.specs.Answers.{lowest}
use Rattle.words.proofs.Order.{gives-when, first-lowest}
use Rattle.mode.specs.Table.{has_depth}
use Rattle.tileset.specs.Sets.{is_size, area, room_in}
use Rattle.tileset.specs.Finding.{found_in}
use Rattle.tileset.specs.Adding.{discards, no_room, counter_full, add_checks, add_says}
use Rattle.tileset.specs.declared.Set.{Set}

pub add-lowest : (z : Set) (s p : List ℕ) → add_says z s p ≡ lowest (add_checks z s p)
unfolding add_says
add-lowest z s p =
    let gone = discards z (found_in z s p) in
    let room = room_in z (length s) in
    first-lowest (1 ∷ 3 ∷ 4 ∷ 6 ∷ 7 ∷ 12 ∷ 13 ∷ []) (add_checks z s p) tt (
      gives-when 1 (ltb 15 z.mode),
      (
        gives-when 3 (not (has_depth z.mode z.depth)),
        (
          gives-when 4 (not (is_size z.mode z.width z.height)),
          (
            gives-when 6 (ltb room z.stored),
            (
              gives-when 7 (not (eqb (length p) (area z))),
              (gives-when 12 (not gone && no_room z room), (gives-when 13 (gone && counter_full z), tt)),
            ),
          ),
        ),
      ),
    )
