use Prim.Native.Nat.{◌*◌}
use Rattle.words.proofs.Filling.{filled_more}
use Rattle.picture.proofs.Drawing.{line-length}
use Rattle.picture.proofs.put_lines.Goals as goal
use Rattle.picture.proofs.put_lines.Goals.{In-loop-y}

pub loop-y-preserved : goal.loop-y-preserved
loop-y-preserved c =
    let a = c.args in
    filled_more (a.columns * 8) (line-length a.strip.now a.columns) c.loop-y.invariant c.put_line.ensures
