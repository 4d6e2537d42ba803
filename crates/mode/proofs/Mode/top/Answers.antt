-- A number of the mode's row.
use Rattle.words.proofs.Bytes.{read_off}
use Rattle.mode.proofs.Mode.top.Goals as goal

pub returns : goal.returns
returns c = read_off 3 c.from.ensures c.row-r.ensures.row
