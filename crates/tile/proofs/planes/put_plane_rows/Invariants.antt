-- Each turn stores a row of the pixels.
use Prim.Native.Nat.{}
use Rattle.words.proofs.Filling.{Filled}
use Rattle.tile.specs.Layout.{element}
use Rattle.tile.specs.Packings.{planar}
use Rattle.tile.proofs.Filling.{run}
use Rattle.tile.proofs.planes.put_plane_rows.Given as goal

abbrev pub invariant-loop-r : goal.invariant-loop-r
invariant-loop-r l = Filled (run (element (planar l.group l.depth 8 8).pixels l.bytes)) l.initial.out l.at l.r l.out
