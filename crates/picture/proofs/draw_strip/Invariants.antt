-- The first x tiles are drawn.
use Prim.Native.Nat.{◌+◌}
use Rattle.words.proofs.Filling.{Filled}
use Rattle.picture.specs.Redrawing.{entry_at, drawn_tile}
use Rattle.picture.proofs.draw_strip.Given as goal

abbrev pub invariant-loop-x : goal.invariant-loop-x
invariant-loop-x l = Filled (λ x. drawn_tile l.m l.depth l.tiles (entry_at l.m l.map (l.first + x))) l.initial.out 0 l.x l.out
