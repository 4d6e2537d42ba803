-- Each turn stores a word of the bytes.
use Prim.Native.Nat.{}
use Rattle.words.proofs.Filling.{Filled}
use Rattle.tile.specs.Layout.{element}
use Rattle.tile.specs.Packings.{layout_in}
use Rattle.tile.proofs.Filling.{run}
use Rattle.tile.proofs.chunky.put_chunky.Given as goal

abbrev pub invariant-loop-b : goal.invariant-loop-b
invariant-loop-b l = Filled (run (element (layout_in l.p).bytes l.tile)) l.initial.out l.at l.b l.out
