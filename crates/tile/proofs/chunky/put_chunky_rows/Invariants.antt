-- Each turn stores a row of the pixels.
use Prim.Native.Nat.{}
use Rattle.words.proofs.Filling.{Filled}
use Rattle.tile.specs.Layout.{element}
use Rattle.tile.specs.Packings.{layout_in}
use Rattle.tile.proofs.Filling.{run}
use Rattle.tile.proofs.chunky.put_chunky_rows.Given as goal

abbrev pub invariant-loop-r : goal.invariant-loop-r
invariant-loop-r l = Filled (run (element (layout_in l.p).pixels l.bytes)) l.initial.out l.at l.r l.out
