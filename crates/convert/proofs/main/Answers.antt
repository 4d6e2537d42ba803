-- What was written is a part of out.
use Rattle.std.proofs.Common.{arith, sym, length-take-le}
use Rattle.sheet.proofs.Telling.{ran-inside}
use Rattle.convert.proofs.main.Goals as goal

pub slice_bounds-out-end : goal.slice_bounds-out-end
slice_bounds-out-end c = omega (arith, ran-inside c.run-answer.ensures)

pub slice_bounds-write_all-end : goal.slice_bounds-write_all-end
slice_bounds-write_all-end c = sym (length-take-le _ _ (omega (arith, ran-inside c.run-answer.ensures)))
