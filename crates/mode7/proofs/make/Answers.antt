-- Refused with the number, or the block at the front of the buffer.
use mathlib.Core.Path.{sym, ap}
use Prim.Native.Nat.{ℕ}
use Rattle.words.specs.Answers.{written}
use Rattle.words.proofs.Answers.{done}
use Rattle.mode7.proofs.Says.{made-fits}
use Rattle.mode7.proofs.Laws.{block-length}
use Rattle.mode7.proofs.make.Goals as goal

pub put_block-requires : goal.put_block-requires
put_block-requires c = made-fits _ _ _ (sym c.in_ok-make_says.ensures)

pub returns : goal.returns
returns c = done (sym c.in_ok-make_says.ensures) (ap (λ (n : ℕ). written 0 n) (sym (block-length _ _))) c.put_block.ensures
