-- The tiles before k do not match.
use mathlib.Core.Path.{◌≡◌}
use Prim.Native.Nat.{◌*◌}
use Rattle.tileset.specs.Finding.{tiles_in, look_up}
use Rattle.tileset.proofs.Search.{matching, found_from}
use Rattle.tileset.proofs.finding.find.Given as goal

abbrev pub invariant-loop-k : goal.invariant-loop-k
invariant-loop-k l =
    look_up l.flips l.width l.height (tiles_in (l.width * l.height) l.store l.count) l.tile
    ≡ found_from (matching l.flips l.width l.height l.tile) (l.width * l.height) l.store l.count l.k
