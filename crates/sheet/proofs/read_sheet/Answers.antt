-- The lines, then the number of bytes after them.
use Rattle.std.proofs.Common.{sym, ◌∙◌, arith}
use Rattle.sheet.proofs.Reading.{sheet-read, sheet-other, sheet-wrong}
use Rattle.sheet.proofs.Lines.{area_small}
use Rattle.sheet.proofs.Exact.{lines-were}
use Rattle.sheet.proofs.read_sheet.Goals as goal

pub returns-in_err-sheet : goal.returns-in_err-sheet
returns-in_err-sheet c = c.from_residual.ensures ∙ sheet-wrong _ (sym c.read_lines.ensures ∙ c.in_err-sheet.was)

pub overflow_mul-pixels-2 : goal.overflow_mul-pixels-2
overflow_mul-pixels-2 c =
    let read = sym c.read_lines.ensures ∙ c.in_ok-sheet.was in
    omega (arith, area_small (lines-were _ _ _ read).limits)

pub overflow_sub-s : goal.overflow_sub-s
overflow_sub-s c =
    let read = sym c.read_lines.ensures ∙ c.in_ok-sheet.was in
    (lines-were _ _ _ read).inside

pub returns-then-s-sheet : goal.returns-then-s-sheet
returns-then-s-sheet c =
    let read = sym c.read_lines.ensures ∙ c.in_ok-sheet.was in
    sheet-read _ read (lines-were _ _ _ read).inside c.if-s-sheet.true

pub returns-else-s-sheet : goal.returns-else-s-sheet
returns-else-s-sheet c =
    let read = sym c.read_lines.ensures ∙ c.in_ok-sheet.was in
    sheet-other _ read (lines-were _ _ _ read).inside c.if-s-sheet.false
