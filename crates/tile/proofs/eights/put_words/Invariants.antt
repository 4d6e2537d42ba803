-- Each turn stores the bytes of a word.
use Prim.Native.Nat.{}
use lib.ListN.{get_or}
use Rattle.words.proofs.Filling.{Filled}
use Rattle.words.specs.Inner.{bytes_in}
use Rattle.tile.proofs.eights.put_words.Given as goal

abbrev pub invariant-loop-i : goal.invariant-loop-i
invariant-loop-i l = Filled (λ k. bytes_in (get_or l.ws k 0)) l.initial.out l.at l.i l.out
