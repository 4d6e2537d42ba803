use Rattle.std.proofs.Common.{arith}
use Rattle.sheet.proofs.Reading.{line-here, line-more, line-end}
use Rattle.sheet.proofs.line_length.Goals as goal

pub returns-then-s-i-eq10 : goal.returns-then-s-i-eq10
returns-then-s-i-eq10 c = (omega (arith, line-here c.args.s.now c.loop-i.i c.loop-i-test.true c.if-s-i-eq10.true), omega arith)

pub loop-i-preserved : goal.loop-i-preserved
loop-i-preserved c = omega (arith, line-more c.args.s.now c.loop-i.i c.loop-i-test.true c.if-s-i-eq10.false)

pub returns : goal.returns
returns c = (omega (arith, line-end c.args.s.now c.loop-i.i (omega arith)), omega arith)
