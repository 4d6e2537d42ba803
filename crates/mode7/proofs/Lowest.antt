-- "Where several apply, the lowest number is given": of making and of splitting a block.
-- Assumes nothing.
use mathlib.Core.Path.{◌≡◌}
use mathlib.Core.Bool.{not}
use mathlib.Core.List.{[], ◌∷◌}
use Prim.Native.Nat.{ℕ, ◌*◌}
use lib.Dec.{ltb, eqb}
use Rattle.words.specs.Answers.{lowest}
use Rattle.words.proofs.Order.{gives-when, first-lowest}
use Rattle.mode7.specs.Block.{pair_count, make_checks, make_says, split_checks, split_says}

pub make-lowest : (tiles map space : ℕ) → make_says tiles map space ≡ lowest (make_checks tiles map space)
unfolding make_says
make-lowest tiles map space =
    first-lowest (7 ∷ 7 ∷ 11 ∷ []) (make_checks tiles map space) tt
    (gives-when 7 (ltb pair_count tiles), (gives-when 7 (ltb pair_count map), (gives-when 11 (ltb space (pair_count * 2)), tt)))

pub split-lowest : (block tile_space map_space : ℕ) → split_says block tile_space map_space ≡ lowest (split_checks block tile_space map_space)
unfolding split_says
split-lowest block tile_space map_space =
    first-lowest (7 ∷ 11 ∷ 11 ∷ []) (split_checks block tile_space map_space) tt
    (gives-when 7 (not (eqb block (pair_count * 2))), (gives-when 11 (ltb tile_space pair_count), (gives-when 11 (ltb map_space pair_count), tt)))
