-- The text, or 11 where it does not fit.
use Rattle.sheet.proofs.Writing.{told}
use Rattle.sheet.proofs.tell.Goals as goal

pub returns : goal.returns
returns c = told _ _ _ c.bytes-lines.ensures.bytes c.if-out-written.false c.put.ensures c.put-2.ensures c.put-3.ensures
