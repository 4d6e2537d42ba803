-- A number of the mode's row.
use native.Mathlib.Omega.{arith}
use Rattle.mode.proofs.Tables.{bits-off}
use Rattle.mode.proofs.Mode.tile_bits.Goals as goal

pub returns : goal.returns
returns c = bits-off 0 (omega arith) c.row-r.ensures.mode c.from.ensures c.row-r.ensures.row
