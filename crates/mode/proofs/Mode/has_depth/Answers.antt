-- The three depths of the row, the last again where there are fewer.
use mathlib.Core.Path.{sym, ap, ◌∙◌}
use Prim.Native.Nat.{ℕ}
use lib.Dec.{eqb}
use Rattle.words.proofs.Bytes.{read_off}
use Rattle.mode.proofs.Tables.{first-depth, second-depth, third-depth}
use Rattle.mode.proofs.Mode.has_depth.Goals as goal

pub returns-then-depth-from : goal.returns-then-depth-from
returns-then-depth-from c = first-depth c.args.self c.args.depth c.row-r.ensures.mode (c.if-depth-from.true ∙ read_off 0 c.from.ensures c.row-r.ensures.row)

pub returns-then-depth-from-2 : goal.returns-then-depth-from-2
returns-then-depth-from-2 c =
    let row_is = c.row-r.ensures.row in
    second-depth c.args.self c.args.depth c.row-r.ensures.mode
    (λ e. c.if-depth-from.false (e ∙ sym (read_off 0 c.from.ensures row_is)))
    (c.if-depth-from-2.true ∙ read_off 1 c.from-2.ensures row_is)

pub returns : goal.returns
returns c =
    let row_is = c.row-r.ensures.row in
    ap (λ (n : ℕ). eqb c.args.depth n) (read_off 2 c.from-3.ensures row_is)
    ∙ third-depth c.args.self c.args.depth c.row-r.ensures.mode
    (λ e. c.if-depth-from.false (e ∙ sym (read_off 0 c.from.ensures row_is)))
    (λ e. c.if-depth-from-2.false (e ∙ sym (read_off 1 c.from-2.ensures row_is)))
