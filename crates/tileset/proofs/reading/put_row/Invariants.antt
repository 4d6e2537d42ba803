-- The eights before x are moved.
use mathlib.Core.Bool.{false}
use Prim.Native.Nat.{◌+◌, ◌*◌, ◌/◌, ◌%◌}
use Rattle.words.specs.Inner.{eight}
use Rattle.words.proofs.Filling.{Filled}
use Rattle.tileset.proofs.reading.put_row.Given as goal

abbrev pub invariant-loop-x : goal.invariant-loop-x
invariant-loop-x l =
    Filled (λ t. eight false l.cells ((l.y / 8 * (l.width / 8) + t) * 64 + l.y % 8 * 8)) l.initial.out l.at l.x l.out
