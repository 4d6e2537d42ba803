-- The three components together are above the top where one of them is.
use Prim.Native.Nat.{◌+◌, ◌*◌}
use lib.ListN.{get_or}
use Rattle.color.specs.Channel.{bits_up_to}
use Rattle.color.proofs.Together.{together}
use Rattle.color.proofs.is_above.Goals as goal

pub returns : goal.returns
returns c =
    let a = c.args in
    let cs = a.colors.now in
    rw c.from.ensures (together (bits_up_to a.top) a.top (get_or cs (4 * a.i) 0) (get_or cs (4 * a.i + 1) 0) (get_or cs (4 * a.i + 2) 0) c.requires.whole)
