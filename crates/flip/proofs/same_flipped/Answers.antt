use mathlib.Core.Path.{sym}
use mathlib.Core.Bool.{true, false}
use Prim.Native.Nat.{ℕ, ◌*◌, ◌≤◌, ◌+◌}
use native.Mathlib.Omega.{arith}
use borrow.Author.Count.{below_more}
use Rattle.flip.specs.Flips.{turned}
use Rattle.flip.specs.Inner.{RowAs}
use Rattle.flip.proofs.Rows.{row_inside, rows_agree, row-differs, row_told}
use Rattle.flip.proofs.same_flipped.Goals as goal
use Rattle.flip.proofs.same_flipped.Goals.{After-turned}

store-row : (c : After-turned) → c.turned.result * c.args.width + c.args.width ≤ c.args.width * c.args.height
store-row c = row_inside c.args.width c.args.height c.turned.result c.turned.ensures.1

tile-row : (c : After-turned) → c.loop-y.y * c.args.width + c.args.width ≤ c.args.width * c.args.height
tile-row c = row_inside c.args.width c.args.height c.loop-y.y c.loop-y-test.true

pub overflow_mul-from : goal.overflow_mul-from
overflow_mul-from c = omega (arith, store-row c)

pub overflow_add-from : goal.overflow_add-from
overflow_add-from c = omega (arith, store-row c)

pub overflow_mul-y : goal.overflow_mul-y
overflow_mul-y c = omega (arith, tile-row c)

pub same_row-requires : goal.same_row-requires
same_row-requires c = record { eights = c.requires.eights; inside = omega (arith, store-row c); within = omega (arith, tile-row c) }

pub returns-then-not-same_row : goal.returns-then-not-same_row
returns-then-not-same_row c =
    let row = c.same_row in
    sym (row-differs c.args.f _ _ _ _ _ c.requires c.loop-y.y c.loop-y-test.true
    (row_told _ _ _ _ _ _ _ _ row.result false c.turned.ensures.0 c.if-not-same_row.true row.ensures))

pub loop-y-preserved : goal.loop-y-preserved
loop-y-preserved c =
    let row = c.same_row in
    let s = c.args in
    below_more (λ (k : ℕ). RowAs s.f.h s.store.now (s.at + turned s.f.v s.height k * s.width) s.tile.now (k * s.width) s.width true) _ c.loop-y.invariant
    (row_told _ _ _ _ _ _ _ _ row.result true c.turned.ensures.0 c.if-not-same_row.false row.ensures)

pub returns : goal.returns
returns c = sym (rows_agree c.args.f _ _ _ _ _ c.requires (λ k p. c.loop-y.invariant k (omega arith)))
