-- Eight pixels of each of the first x tiles are put.
use mathlib.Core.List.{[], ◌∷◌}
use Prim.Native.Nat.{◌+◌, ◌*◌}
use lib.ListN.{get_or}
use Rattle.words.specs.Loops.{each}
use Rattle.words.proofs.Filling.{Filled}
use Rattle.picture.proofs.put_line.Given as goal

abbrev pub invariant-loop-x : goal.invariant-loop-x
invariant-loop-x l = Filled (λ x. each 8 (λ j. get_or l.strip (x * 64 + l.y * 8 + j) 0 ∷ [])) l.initial.out l.at l.x l.out
