-- The line of the refusal is the whole text.
use Rattle.std.proofs.Common.{◌∙◌}
use Rattle.sheet.specs.Report.{refused_text}
use Rattle.sheet.proofs.Writing.{told-alone}
use Rattle.sheet.proofs.refuse.Goals as goal

pub returns : goal.returns
unfolding refused_text
returns c = rw (← c.number-number.ensures) (told-alone (c.number.ensures.text ∙ rw c.new-text.ensures) c.tell.ensures)
