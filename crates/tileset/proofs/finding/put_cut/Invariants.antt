-- The pixels before i are put.
use mathlib.Core.List.{[], ◌∷◌}
use Prim.Native.Nat.{◌%◌, ◌^◌}
use lib.ListN.{get_or}
use Rattle.words.proofs.Filling.{Filled}
use Rattle.tileset.proofs.finding.put_cut.Given as goal

abbrev pub invariant-loop-i : goal.invariant-loop-i
invariant-loop-i l = Filled (λ k. get_or l.pixels k 0 % 2 ^ l.depth ∷ []) l.initial.out l.at l.i l.out
