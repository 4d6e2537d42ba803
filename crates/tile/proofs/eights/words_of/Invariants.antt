-- Each turn reads a word.
use mathlib.Core.Bool.{false}
use Prim.Native.Nat.{◌*◌}
use Rattle.words.specs.Inner.{word_at}
use Rattle.tile.proofs.Filling.{Starts}
use Rattle.tile.proofs.eights.words_of.Given as goal

abbrev pub invariant-loop-i : goal.invariant-loop-i
invariant-loop-i l = Starts 8 (λ k. word_at false l.bytes (k * 8)) l.i l.ws
