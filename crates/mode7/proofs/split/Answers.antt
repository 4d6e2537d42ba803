-- Refused with the number, or each half at the front of its buffer.
use mathlib.Core.Path.{sym, ap}
use Prim.Native.Nat.{ℕ}
use Rattle.words.specs.Answers.{written}
use Rattle.words.proofs.Answers.{done}
use Rattle.mode7.proofs.Says.{split-fits}
use Rattle.mode7.proofs.Laws.{tile-half-length, map-half-length}
use Rattle.mode7.proofs.split.Goals as goal

pub put_halves-requires : goal.put_halves-requires
put_halves-requires c = split-fits _ _ _ (sym c.in_ok-split_says.ensures)

pub returns : goal.returns
returns c =
    let zero = sym c.in_ok-split_says.ensures in
    record {
      of_tiles = done zero (ap (λ (n : ℕ). written 0 n) (sym (tile-half-length _))) c.put_halves.ensures.0;
      of_map = done zero (ap (λ (n : ℕ). written 0 n) (sym (map-half-length _))) c.put_halves.ensures.1;
    }
