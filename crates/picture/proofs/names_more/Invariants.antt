-- No entry before i names such a tile.
use mathlib.Core.Path.{◌≡◌}
use mathlib.Core.Bool.{false}
use lib.Dec.{leb}
use Rattle.words.specs.Loops.{some}
use Rattle.picture.specs.Entries.{tile_named}
use Rattle.picture.specs.Redrawing.{entry_at}
use Rattle.picture.proofs.names_more.Given as goal

abbrev pub invariant-loop-i : goal.invariant-loop-i
invariant-loop-i l = (some l.i (λ i. leb l.tiles (tile_named l.m 8 8 (entry_at l.m l.map i))) ≡ false)
