-- A tile is compared row by row: all rows before y agree.
use mathlib.Core.Bool.{true}
use Prim.Native.Nat.{ℕ, ◌<◌, ◌*◌, ◌+◌}
use Rattle.flip.specs.Flips.{turned}
use Rattle.flip.specs.Inner.{RowAs}
use Rattle.flip.proofs.same_flipped.Given as goal

abbrev pub invariant-loop-y : goal.invariant-loop-y
invariant-loop-y l = (k : ℕ) → k < l.y → RowAs l.f.h l.store (l.at + turned l.f.v l.height k * l.width) l.tile (k * l.width) l.width true
