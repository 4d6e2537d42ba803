-- The quarters before j are made.
use Prim.Native.Nat.{◌+◌, ◌*◌}
use Rattle.words.proofs.Filling.{Filled}
use Rattle.tile.specs.Inner.{quarter_words}
use Rattle.tile.proofs.sprites.cell_pixels.Given as goal

abbrev pub invariant-loop-j : goal.invariant-loop-j
invariant-loop-j l = Filled (λ i. quarter_words l.bytes (l.from + i * 8)) l.initial.ws 0 l.j l.ws
