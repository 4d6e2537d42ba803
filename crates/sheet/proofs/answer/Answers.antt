-- The picture's refusal, or its report with the bytes that were written.
use Rattle.std.proofs.Common.{refl}
use Rattle.words.proofs.Refusing.{refusal-not-done}
use Rattle.sheet.proofs.Telling.{own-buffers, refused-picture, told-picture}
use Rattle.sheet.proofs.answer.Goals as goal

pub returns-in-Err : goal.returns-in-Err
returns-in-Err c = refused-picture c.in-Err.ensures (own-buffers _ _) (refusal-not-done _) c.refuse.ensures

pub returns-in-Ok : goal.returns-in-Ok
returns-in-Ok c = told-picture c.in-Ok.ensures (own-buffers _ _) refl c.report_lines-text.ensures c.tell.ensures
