-- Each turn stores a word of the flipped tile.
use lib.ListN.{length}
use Rattle.words.proofs.Filling.{Filled}
use Rattle.tile.specs.Layout.{element}
use Rattle.tile.proofs.Filling.{run}
use Rattle.nativeflip.specs.Inner.{pixels_turned}
use Rattle.nativeflip.proofs.turns.put_turned.Given as goal

abbrev pub invariant-loop-b : goal.invariant-loop-b
invariant-loop-b l = Filled (run (element (pixels_turned l.row l.f.h l.f.v (length l.bytes)) l.bytes)) l.initial.out 0 l.b l.out
