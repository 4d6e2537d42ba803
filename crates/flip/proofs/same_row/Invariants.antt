-- A row is compared by eights: all places before 8k agree.
use mathlib.Core.Path.{◌≡◌}
use Prim.Native.Nat.{ℕ, ◌<◌, ◌+◌, ◌*◌}
use lib.ListN.{get_or}
use Rattle.flip.specs.Flips.{turned}
use Rattle.flip.proofs.same_row.Given as goal

abbrev pub invariant-loop-k : goal.invariant-loop-k
invariant-loop-k l = (x : ℕ) → x < l.k * 8 → get_or l.store (l.from + turned l.across l.width x) 0 ≡ get_or l.tile (l.i + x) 0
