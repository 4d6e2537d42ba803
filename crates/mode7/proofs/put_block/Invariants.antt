-- The pairs before i are put: by the first loop while both inputs have a byte, by the second or the third while one has, then by the fourth.
use Rattle.words.proofs.Filling.{Filled}
use Rattle.mode7.specs.Block.{pair_of}
use Rattle.mode7.proofs.put_block.Given as goal

abbrev pub invariant-loop-i : goal.invariant-loop-i
invariant-loop-i l = Filled (pair_of l.tiles l.map) l.fn.out 0 l.i l.out

abbrev pub invariant-loop-i-2 : goal.invariant-loop-i-2
invariant-loop-i-2 l = Filled (pair_of l.tiles l.map) l.fn.out 0 l.i l.out

abbrev pub invariant-loop-i-3 : goal.invariant-loop-i-3
invariant-loop-i-3 l = Filled (pair_of l.tiles l.map) l.fn.out 0 l.i l.out

abbrev pub invariant-loop-i-4 : goal.invariant-loop-i-4
invariant-loop-i-4 l = Filled (pair_of l.tiles l.map) l.fn.out 0 l.i l.out
