-- The first y lines are put.
use Rattle.picture.specs.Inner.{pixel_line}
use Rattle.words.proofs.Filling.{Filled}
use Rattle.picture.proofs.put_lines.Given as goal

abbrev pub invariant-loop-y : goal.invariant-loop-y
invariant-loop-y l = Filled (pixel_line l.strip l.columns) l.initial.out l.at l.y l.out
