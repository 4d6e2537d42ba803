-- Each turn moves eight.
use Prim.Native.Nat.{}
use lib.ListN.{get_or}
use Rattle.words.proofs.Filling.{Filled}
use Rattle.tile.proofs.Filling.{run}
use Rattle.tile.proofs.chunky.put_plain.Given as goal

abbrev pub invariant-loop-r : goal.invariant-loop-r
invariant-loop-r l = Filled (run (λ k. get_or l.tile k 0)) l.initial.out l.at l.r l.out
