-- Each turn reads a word and turns it.
use Prim.Native.Nat.{}
use Rattle.tile.proofs.Filling.{Starts}
use Rattle.tile.proofs.Columns.{turned}
use Rattle.tile.proofs.planes.column_words.Given as goal

abbrev pub invariant-loop-i : goal.invariant-loop-i
invariant-loop-i l = Starts 8 (turned l.bytes) l.i l.ws
