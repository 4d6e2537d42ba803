-- The pixels before x are put.
use mathlib.Core.List.{[], ◌∷◌}
use Prim.Native.Nat.{◌+◌, ◌%◌, ◌^◌}
use lib.ListN.{get_or}
use Rattle.words.proofs.Filling.{Filled}
use Rattle.picture.proofs.cut_eight.Given as goal

abbrev pub invariant-loop-x : goal.invariant-loop-x
invariant-loop-x l = Filled (λ x. get_or l.pixels (l.from + x) 0 % 2 ^ l.depth ∷ []) l.initial.out l.at l.x l.out
