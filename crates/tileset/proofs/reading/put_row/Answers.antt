use mathlib.Core.Path.{refl, ap, ◌∙◌}
use mathlib.Core.List.{List}
use Prim.Native.Nat.{ℕ, ◌+◌, ◌*◌, ◌/◌, ◌%◌, ◌≤◌}
use native.Mathlib.Omega.{arith}
use lib.ListN.{length}
use lib.Seq.{sets}
use Rattle.words.proofs.Filling.{filled_more, filled-all}
use Rattle.tileset.proofs.ReadingLaws.{eight-inside, row-eights}
use Rattle.tileset.proofs.reading.put_row.Goals as goal
use Rattle.tileset.proofs.reading.put_row.Goals.{In-loop-x, Start}

near : (c : In-loop-x) → let a = c.args in (a.y / 8 * (a.width / 8) + c.loop-x.x) * 64 + a.y % 8 * 8 + 8 ≤ length a.cells.now
near c = let a = c.args in eight-inside a.width a.y (length a.cells.now) c.requires.across c.requires.inside c.loop-x.x c.loop-x-test.true

here : (c : In-loop-x) → c.args.at + c.loop-x.x * 8 + 8 ≤ length c.args.out.now
here c = omega (arith, c.requires.space, c.requires.across, c.loop-x-test.true)

pub overflow_mul-above-in-loop-x : goal.overflow_mul-above-in-loop-x
overflow_mul-above-in-loop-x c = omega (arith, near c)

pub overflow_add-above-in-loop-x : goal.overflow_add-above-in-loop-x
overflow_add-above-in-loop-x c = omega (arith, near c)

pub put_eight-requires : goal.put_eight-requires
put_eight-requires c = (near (goal.at.put_eight-requires c).In-loop-x, omega (arith, here (goal.at.put_eight-requires c).In-loop-x, c.loop-x.invariant.long))

pub loop-x-preserved : goal.loop-x-preserved
loop-x-preserved c = filled_more 8 (λ k. refl) c.loop-x.invariant c.put_eight.ensures

pub returns : goal.returns
returns c =
    let a = c.args in
    filled-all (a.width / 8) c.loop-x.invariant (omega arith)
    ∙ ap (λ (l : List ℕ). sets a.out.now a.at l) (row-eights a.width a.cells.now a.y c.requires.across)
