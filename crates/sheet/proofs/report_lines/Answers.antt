-- The line of the mode, then those of numbers.
use Rattle.std.proofs.Common.{ap, length, arith}
use mathlib.Core.List.{append_assoc}
use Rattle.sheet.specs.Report.{number_line, report_text}
use Rattle.sheet.proofs.Writing.{name-length, flag_bit}
use Rattle.sheet.proofs.report_lines.Goals as goal

pub line-requires : goal.line-requires
line-requires c = (omega (arith, ap length c.new-text.ensures), omega (arith, ap length c.name.ensures, name-length c.at.result (omega arith)))

pub returns : goal.returns
unfolding report_text number_line
returns c =
    rw (c.number-9.ensures.text, c.number-8.ensures.text, c.number-7.ensures.text, c.number-6.ensures.text, c.number-5.ensures.text, c.number-4.ensures.text, c.number-3.ensures.text, c.number-2.ensures.text, c.number.ensures.text, c.line.ensures.text, c.new-text.ensures, c.name.ensures, c.at.ensures, c.from.ensures, c.from-2.ensures)
    (simp (append_assoc, number_line, flag_bit))
