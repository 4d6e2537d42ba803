use native.Mathlib.Omega.{arith}
use Rattle.words.proofs.Filling.{put_mid-sets}
use Rattle.words.proofs.put.Goals as goal

pub returns : goal.returns
returns c = rw c.copy_from_slice.ensures.after (put_mid-sets _ _ c.args.out.now c.args.bytes.now (omega arith) c.requires)
