-- The bytes before i of either half are put.
use mathlib.Core.List.{[], ◌∷◌}
use Prim.Native.Nat.{◌+◌, ◌*◌}
use lib.ListN.{get_or}
use Rattle.words.proofs.Filling.{Filled}
use Rattle.mode7.proofs.put_halves.Given as goal

abbrev pub invariant-loop-i : goal.invariant-loop-i
invariant-loop-i l =
    Filled (λ k. get_or l.block (k * 2 + 1) 0 ∷ []) l.initial.tiles 0 l.i l.tiles × Filled (λ k. get_or l.block (k * 2) 0 ∷ []) l.initial.map 0 l.i l.map
