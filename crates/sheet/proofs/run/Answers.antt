-- A sheet is answered as its picture, anything else with 14.
use Rattle.std.proofs.Common.{sym, ◌∙◌, arith}
use Rattle.sheet.proofs.Exact.{sheet-lines}
use Rattle.sheet.proofs.Telling.{ran-read, ran-wrong}
use Rattle.sheet.proofs.run.Goals as goal

pub slice_bounds-answer-count : goal.slice_bounds-answer-count
slice_bounds-answer-count c = (sheet-lines _ _ _ (sym c.read_sheet.ensures ∙ c.in-Some.is)).inside

pub slice_bounds-answer-start : goal.slice_bounds-answer-start
slice_bounds-answer-start c = (sheet-lines _ _ _ (sym c.read_sheet.ensures ∙ c.in-Some.is)).inside

pub answer-requires : goal.answer-requires
answer-requires c = omega (arith, (sheet-lines _ _ _ (sym c.read_sheet.ensures ∙ c.in-Some.is)).limits.known)

pub returns-in-Some : goal.returns-in-Some
returns-in-Some c = ran-read _ (sym c.read_sheet.ensures ∙ c.in-Some.is) c.answer.ensures

pub returns-in-None : goal.returns-in-None
returns-in-None c = ran-wrong _ (sym c.read_sheet.ensures ∙ c.in-None.is) c.refuse.ensures
