use native.Mathlib.Omega.{arith}
use Rattle.words.proofs.Filling.{filled_none, filled-one, filled-all}
use Rattle.words.proofs.put_bytes.Goals as goal

pub loop-m-init : goal.loop-m-init
loop-m-init c = filled_none _ _ _

pub bounds-out-at : goal.bounds-out-at
bounds-out-at c = omega arith

pub loop-m-preserved : goal.loop-m-preserved
loop-m-preserved c = filled-one c.loop-m.invariant c.byte.ensures

pub returns : goal.returns
returns c = filled-all 8 c.loop-m.invariant (omega arith)
