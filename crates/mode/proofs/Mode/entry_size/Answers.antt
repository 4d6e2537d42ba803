-- A number of the mode's row.
use Rattle.words.proofs.Bytes.{read_off}
use Rattle.mode.proofs.Mode.entry_size.Goals as goal

pub returns : goal.returns
returns c = read_off 4 c.from.ensures c.row-r.ensures.row
