-- The tiles of the bucket from l on are searched.
use mathlib.Core.Path.{◌≡◌}
use Prim.Native.Nat.{◌%◌}
use Rattle.index.proofs.Chains.{Searching}
use Rattle.picture.specs.Inner.{tiles_of}
use Rattle.picture.proofs.stored.Store.find.Given as goal

abbrev pub invariant-loop-l : goal.invariant-loop-l
invariant-loop-l l = (l.b ≡ l.q % 4096) × Searching l.source.settings.flip (tiles_of l.source l.self) l.tile l.l l.found

abbrev pub decreases-loop-l : goal.decreases-loop-l
decreases-loop-l l = l.l
