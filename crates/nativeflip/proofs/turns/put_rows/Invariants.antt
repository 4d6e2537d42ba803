-- Each turn stores a word of the turned tile.
use mathlib.Core.Bool.{false}
use lib.ListN.{length}
use Rattle.words.proofs.Filling.{Filled}
use Rattle.tile.specs.Layout.{element}
use Rattle.tile.proofs.Filling.{run}
use Rattle.nativeflip.specs.Inner.{planes_turned}
use Rattle.nativeflip.proofs.turns.put_rows.Given as goal

abbrev pub invariant-loop-b : goal.invariant-loop-b
invariant-loop-b l = Filled (run (element (planes_turned l.row false l.down (length l.bytes)) l.bytes)) l.initial.out 0 l.b l.out
