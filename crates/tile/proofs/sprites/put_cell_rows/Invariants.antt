-- The words before t are stored.
use mathlib.Core.Path.{◌≡◌}
use Prim.Native.Nat.{◌+◌, ◌*◌, ◌/◌, ◌%◌}
use lib.ListN.{length, get_or}
use Rattle.tile.specs.Inner.{stored_at}
use Rattle.tile.proofs.sprites.put_cell_rows.Given as goal

abbrev pub invariant-loop-t : goal.invariant-loop-t
invariant-loop-t l =
    (length l.out ≡ length l.initial.out) × (l.out ≡ stored_at l.t (λ t. l.at + t / 2 * l.width + t % 2 * 8) (λ t. get_or l.ws t 0) l.initial.out)
