-- The rows before y are moved.
use mathlib.Core.Bool.{false}
use Prim.Native.Nat.{◌*◌, ◌+◌}
use Rattle.words.specs.Inner.{eight}
use Rattle.words.proofs.Filling.{Filled}
use Rattle.tileset.proofs.writing.take_block.Given as goal

abbrev pub invariant-loop-y : goal.invariant-loop-y
invariant-loop-y l = Filled (λ k. eight false l.store (l.corner + k * l.width)) l.initial.out 0 l.y l.out
