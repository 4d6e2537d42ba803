-- The key, byte by byte, then the text.
use Rattle.std.proofs.Common.{sym, ◌∙◌}
use Rattle.sheet.proofs.Reading.{line-keyed, line_other}
use Rattle.sheet.proofs.line_says.Goals as goal

pub returns-in_err-text : goal.returns-in_err-text
returns-in_err-text c =
    let a = c.args in
    c.from_residual.ensures ∙ sym (line_other a.line a.bytes.now c.text.ensures.text c.in_err-text.ensures.cases)

pub returns : goal.returns
returns c =
    let a = c.args in
    let found = c.in_ok-text.ensures.cases in
    c.text_says.ensures ∙ sym (line-keyed a.line a.bytes.now c.text.ensures.text found.0 found.1)
