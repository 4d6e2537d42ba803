use mathlib.Core.Path.{◌≡◌, ap, ◌∙◌}
use Prim.Native.Nat.{ℕ, ◌*◌, ◌≤◌, ◌+◌}
use native.Mathlib.Omega.{arith}
use lib.ListN.{length}
use Rattle.words.specs.Answers.{overwrite}
use Rattle.words.proofs.Filling.{filled-front, filled_next}
use Rattle.tileset.specs.Writing.{cell_bytes, cells_of}
use Rattle.tileset.proofs.Sizes.{IsSet}
use Rattle.tileset.proofs.Says.{held-set}
use Rattle.tileset.proofs.WritingLaws.{cell-length, cell_set, cells-space, item-space}
use Rattle.tileset.proofs.writing.put_cells.Goals as goal
use Rattle.tileset.proofs.writing.put_cells.Goals.{In-loop-c, Start}

sound : (c : Start) → IsSet c.args.held.now.set.mode c.args.held.now.set.depth c.args.held.now.set.width c.args.held.now.set.height
sound c = held-set c.args.held.now.set _ c.args.held.now.held

size_is : (c : Start) → (k : ℕ) → length (cell_bytes c.args.held.now.set c.args.held.now.store.now k) ≡ c.args.held.now.set.depth * 8
size_is c = cell-length c.args.held.now.set _ c.args.held.now.held c.requires.1 c.args.held.now.store.now

space : (c : Start) → cells_of c.args.held.now.set * (c.args.held.now.set.depth * 8) ≤ length c.args.out.now
space c = omega (arith, cells-space c.args.held.now.set c.args.held.now.store.now c.args.held.now.held c.requires.1, c.requires.0)

here : (c : In-loop-c) → c.loop-c.c * (c.args.held.now.set.depth * 8) + c.args.held.now.set.depth * 8 ≤ length (c.args.out.now)
here c =
    let space : cells_of c.args.held.now.set * (c.args.held.now.set.depth * 8) ≤ length c.args.out.now =
    omega (arith, cells-space c.args.held.now.set c.args.held.now.store.now c.args.held.now.held c.requires.1, c.requires.0) in
    item-space (cells_of (c.args.held.now.set)) _ _ c.loop-c.c (space) (omega (arith, c.cell_count-c-end.ensures, c.loop-c-test.true))

pub overflow_mul-size : goal.overflow_mul-size
overflow_mul-size c = omega (arith, (sound (goal.at.overflow_mul-size c).Start).deep)

pub put_cell-requires : goal.put_cell-requires
put_cell-requires c =
    record {
      cells = c.requires.1;
      space = omega (arith, here (goal.at.put_cell-requires c).In-loop-c, c.loop-c.invariant.long);
    }

pub loop-c-preserved : goal.loop-c-preserved
loop-c-preserved c =
    filled_next (c.args.held.now.set.depth * 8) (size_is (goal.at.loop-c-preserved c).Start) c.loop-c.invariant c.put_cell.ensures

pub returns : goal.returns
returns c =
    filled-front (c.args.held.now.set.depth * 8) (cells_of (c.args.held.now.set)) (size_is (goal.at.returns c).Start) c.loop-c.invariant (omega (arith, c.cell_count-c-end.ensures)) (space (goal.at.returns c).Start)
    ∙ ap (overwrite (c.args.out.now)) (cell_set (c.args.held.now.set) (c.args.held.now.store.now) c.args.held.now.held c.requires.1).0
