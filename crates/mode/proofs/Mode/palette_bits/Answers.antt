-- A number of the mode's row.
use native.Mathlib.Omega.{arith}
use Rattle.mode.proofs.Tables.{bits-off}
use Rattle.mode.proofs.Mode.palette_bits.Goals as goal

pub returns : goal.returns
returns c = bits-off 1 (omega arith) c.row-r.ensures.mode c.from.ensures c.row-r.ensures.row
