-- A name in the mode's line, a number in the others.
use Rattle.std.proofs.Common.{sym, ap, ◌∙◌}
use Rattle.sheet.specs.Numbers.{at_most}
use Rattle.sheet.proofs.Reading.{text-mode, text-number}
use Rattle.sheet.proofs.text_says.Goals as goal

pub returns-in-Mode : goal.returns-in-Mode
returns-in-Mode c =
    let a = c.args in
    c.mode_told.ensures ∙ sym (text-mode a.line a.text.now c.in-Mode.is)

pub returns-in_default : goal.returns-in_default
returns-in_default c =
    let a = c.args in
    c.at_most.ensures ∙ ap (at_most a.line.top) c.number.ensures ∙ sym (text-number a.line a.text.now c.in_default.not-Mode)
