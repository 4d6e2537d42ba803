use mathlib.Core.Path.{sym, ◌∙◌}
use Rattle.mode.proofs.Tables.{next-name}
use Rattle.mode.proofs.Mode.named.Goals as goal

pub returns-then-is_named : goal.returns-then-is_named
returns-then-is_named c =
    let next = next-name c.args.s.now c.loop-number.number c.loop-number-test.true in
    sym (c.loop-number.invariant ∙ next ∙ rw (← c.is_named.ensures, c.if-is_named.true))

pub loop-number-preserved : goal.loop-number-preserved
loop-number-preserved c =
    let next = next-name c.args.s.now c.loop-number.number c.loop-number-test.true in
    c.loop-number.invariant ∙ next ∙ rw (← c.is_named.ensures, c.if-is_named.false)
