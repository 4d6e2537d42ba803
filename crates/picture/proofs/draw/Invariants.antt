-- The first y rows of tiles are drawn.
use mathlib.Core.Path.{◌≡◌}
use lib.ListN.{length}
use Rattle.words.proofs.Filling.{Filled}
use Rattle.picture.proofs.Drawing.{row_drawn}
use Rattle.picture.proofs.draw.Given as goal

abbrev pub invariant-loop-y : goal.invariant-loop-y
invariant-loop-y l = Filled (row_drawn l.m l.depth l.columns l.tiles l.map) l.initial.out 0 l.y l.out × (length l.strip ≡ 4096)
