-- What number 0 says of the lengths, and when each number is given.
-- Assumes nothing.
use mathlib.Core.Path.{◌≡◌}
use mathlib.Core.Bool.{not}
use Prim.Native.Nat.{ℕ, ◌*◌}
use lib.Dec.{ltb, eqb}
use borrow.Author.Tests.{ltb-false, not-false, eqb-true}
use Rattle.words.proofs.Answers.{all-passed, not-given}
use Rattle.mode7.specs.Block.{pair_count, make_checks, make_says, split_checks, split_says}
use Rattle.mode7.specs.Inner.{CanMake, CanSplit}

pub made-fits : (tiles map space : ℕ) → make_says tiles map space ≡ 0 → CanMake tiles map space
unfolding make_says
made-fits tiles map space e =
    let passed = all-passed (make_checks tiles map space) e in
    record {
      tiles-fit = ltb-false pair_count tiles (not-given 6 (ltb pair_count tiles) (passed 0));
      map-fits = ltb-false pair_count map (not-given 6 (ltb pair_count map) (passed 1));
      block-fits = ltb-false space (pair_count * 2) (not-given 10 (ltb space (pair_count * 2)) (passed 2));
    }

pub split-fits : (block tile_space map_space : ℕ) → split_says block tile_space map_space ≡ 0 → CanSplit block tile_space map_space
unfolding split_says
split-fits block tile_space map_space e =
    let passed = all-passed (split_checks block tile_space map_space) e in
    record {
      whole = eqb-true block (pair_count * 2) (not-false (eqb block (pair_count * 2)) (not-given 6 (not (eqb block (pair_count * 2))) (passed 0)));
      tiles-fit = ltb-false tile_space pair_count (not-given 10 (ltb tile_space pair_count) (passed 1));
      map-fits = ltb-false map_space pair_count (not-given 10 (ltb map_space pair_count) (passed 2));
    }
