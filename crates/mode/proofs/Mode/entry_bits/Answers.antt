-- Four numbers of the mode's row.
use native.Mathlib.Omega.{arith}
use Rattle.mode.proofs.Tables.{bits-off}
use Rattle.mode.proofs.Mode.entry_bits.Goals as goal

pub returns : goal.returns
returns c =
    let tile = bits-off 0 (omega arith) c.row-r.ensures.mode c.from.ensures c.row-r.ensures.row in
    let palette = bits-off 1 (omega arith) c.row-r.ensures.mode c.from-2.ensures c.row-r.ensures.row in
    let flips = bits-off 2 (omega arith) c.row-r.ensures.mode c.from-3.ensures c.row-r.ensures.row in
    let priority = bits-off 3 (omega arith) c.row-r.ensures.mode c.from-4.ensures c.row-r.ensures.row in
    (rw (tile.0, palette.0, flips.0, priority.0), record { tile = tile.1; palette = palette.1; flips = flips.1; priority = priority.1 })
