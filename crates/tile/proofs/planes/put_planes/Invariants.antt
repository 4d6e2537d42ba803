-- Each turn makes a word, and the words that are then stored have the bytes of the planes.
use Prim.Native.Nat.{}
use Rattle.tile.specs.Packings.{planar}
use Rattle.tile.specs.Inner.{word_from}
use Rattle.tile.proofs.Filling.{Starts}
use Rattle.tile.proofs.planes.put_planes.Given as goal

abbrev pub invariant-loop-b : goal.invariant-loop-b
invariant-loop-b l = Starts 8 (word_from (planar l.group 8 8 8).bytes l.ws) l.b l.part
