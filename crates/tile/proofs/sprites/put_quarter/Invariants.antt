-- The words before k are made, of the four words that were read.
use mathlib.Core.List.{[], ◌∷◌}
use Prim.Native.Nat.{}
use Rattle.words.proofs.Filling.{Filled}
use Rattle.tile.specs.Inner.{word_from, quarter, planes_at}
use Rattle.tile.proofs.sprites.put_quarter.Given as goal

abbrev pub invariant-loop-k : goal.invariant-loop-k
invariant-loop-k l = Filled (λ k. word_from quarter (planes_at l.bytes l.from) k ∷ []) l.initial.ws l.at l.k l.ws
