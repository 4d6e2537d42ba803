-- The bytes before m are stored.
use mathlib.Core.List.{[], ◌∷◌}
use Rattle.words.proofs.Filling.{Filled}
use Rattle.words.specs.Inner.{byte_in}
use Rattle.words.proofs.put_bytes.Given as goal

abbrev pub invariant-loop-m : goal.invariant-loop-m
invariant-loop-m l = Filled (λ k. byte_in l.w k ∷ []) l.initial.out l.at l.m l.out
