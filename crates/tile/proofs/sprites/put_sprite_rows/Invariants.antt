-- The words of the cells before c are stored, each at its place.
use Prim.Native.Nat.{◌*◌, ◌/◌}
use Rattle.tile.specs.Layout.{element}
use Rattle.tile.specs.Packings.{sprite}
use Rattle.tile.proofs.Scattered.{Scattered}
use Rattle.tile.proofs.CellRows.{sprite_turn}
use Rattle.tile.proofs.sprites.put_sprite_rows.Given as goal

abbrev pub invariant-loop-c : goal.invariant-loop-c
invariant-loop-c l =
    Scattered (sprite_turn l.width l.height) (element (sprite l.width l.height).pixels l.bytes) l.initial.out l.at (l.width * l.height / 8) (l.c * 32) l.out
