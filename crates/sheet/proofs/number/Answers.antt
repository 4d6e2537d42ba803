-- 0 alone may begin with 0.
use Rattle.std.proofs.Common.{sym, ◌∙◌, arith}
use Rattle.sheet.proofs.Reading.{number-none, number-zero, number-leading, number_digits}
use Rattle.sheet.proofs.number.Goals as goal

pub returns-in-empty : goal.returns-in-empty
returns-in-empty c = sym (number-none c.args.s.now (omega arith))

pub returns-in-len1-up : goal.returns-in-len1-up
returns-in-len1-up c = c.digits.ensures ∙ sym (number_digits c.args.s.now (λ e. omega arith) c.if-first-ne-ZERO.true)

pub returns-in-len1 : goal.returns-in-len1
returns-in-len1 c = sym (number-zero c.args.s.now (λ e. omega arith) c.if-first-ne-ZERO.false (omega arith))

pub returns-in_default : goal.returns-in_default
returns-in_default c = sym (number-leading c.args.s.now (λ e. omega arith) c.if-first-ne-ZERO.false (λ e. omega arith))
