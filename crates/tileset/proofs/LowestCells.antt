-- "Where several apply, the lowest number is given": of the two numbers, and of writing and reading a set.
-- Assumes nothing.
use mathlib.Core.Path.{◌≡◌}
use mathlib.Core.Bool.{not}
use mathlib.Core.List.{List, [], ◌∷◌}
use Prim.Native.Nat.{ℕ, ◌*◌, ◌%◌}
use lib.Dec.{ltb, eqb}
use lib.ListN.{length}
use Rattle.words.specs.Answers.{lowest}
use Rattle.words.specs.Loops.{some}
use Rattle.words.proofs.Order.{gives-when, first-lowest}
use Rattle.mode.specs.Table.{has_depth, pce-sprite}
use Rattle.tile.specs.Tile.{too_large}
use Rattle.tileset.specs.Sets.{is_size, area, room_in}
use Rattle.tileset.specs.Numbers.{tile_of, native_checks, native_says, logical_checks, logical_says}
use Rattle.tileset.specs.Writing.{write_size, write_checks, write_says}
use Rattle.tileset.specs.Reading.{unit_bytes, read_count, read_checks, read_says}
use Rattle.tileset.specs.declared.Set.{Set}

pub native-lowest : (m w h n : ℕ) → native_says m w h n ≡ lowest (native_checks m w h n)
unfolding native_says
native-lowest m w h n =
    first-lowest (1 ∷ 2 ∷ 4 ∷ 4 ∷ []) (native_checks m w h n) tt
    (gives-when 1 (ltb 15 m), (gives-when 2 (eqb m pce-sprite), (gives-when 4 (not (is_size m w h)), (gives-when 4 (ltb 65535 n), tt))))

pub logical-lowest : (m w h c : ℕ) → logical_says m w h c ≡ lowest (logical_checks m w h c)
logical-lowest m w h c = native-lowest m w h (tile_of m w h c)

pub write-lowest : (z : Set) (store : List ℕ) (space : ℕ) → write_says z store space ≡ lowest (write_checks z store space)
unfolding write_says
write-lowest z store space =
    first-lowest (1 ∷ 3 ∷ 4 ∷ 6 ∷ 8 ∷ 11 ∷ []) (write_checks z store space) tt (
      gives-when 1 (ltb 15 z.mode),
      (
        gives-when 3 (not (has_depth z.mode z.depth)),
        (
          gives-when 4 (not (is_size z.mode z.width z.height)),
          (
            gives-when 6 (ltb (room_in z (length store)) z.stored),
            (
              gives-when 8 (some (z.stored * area z) (too_large z.depth store)),
              (gives-when 11 (ltb space (write_size z)), tt),
            ),
          ),
        ),
      ),
    )

pub read-lowest : (m d w h len space : ℕ) → read_says m d w h len space ≡ lowest (read_checks m d w h len space)
unfolding read_says
read-lowest m d w h len space =
    first-lowest (1 ∷ 3 ∷ 4 ∷ 7 ∷ 11 ∷ 12 ∷ []) (read_checks m d w h len space) tt (
      gives-when 1 (ltb 15 m),
      (
        gives-when 3 (not (has_depth m d)),
        (
          gives-when 4 (not (is_size m w h)),
          (
            gives-when 7 (not (eqb (len % unit_bytes m d w h) 0)),
            (gives-when 11 (ltb space (read_count m d w h len * (w * h))), (gives-when 12 (ltb 65535 (read_count m d w h len)), tt)),
          ),
        ),
      ),
    )
