-- Each turn stores a word of the turned tile, each byte as the table has it.
use mathlib.Core.Bool.{true}
use lib.ListN.{length}
use Rattle.words.proofs.Filling.{Filled}
use Rattle.tile.specs.Layout.{element}
use Rattle.tile.proofs.Filling.{run}
use Rattle.nativeflip.specs.Inner.{planes_turned}
use Rattle.nativeflip.proofs.turns.put_reversed.Given as goal

abbrev pub invariant-loop-b : goal.invariant-loop-b
invariant-loop-b l = Filled (run (element (planes_turned l.row true l.down (length l.bytes)) l.bytes)) l.initial.out 0 l.b l.out
