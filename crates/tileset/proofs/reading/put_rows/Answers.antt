use Rattle.words.proofs.Filling.{filled_more}
use Rattle.tileset.proofs.ReadingLaws.{row-length}
use Rattle.tileset.proofs.reading.put_rows.Goals as goal
use Rattle.tileset.proofs.reading.put_rows.Goals.{In-loop-y}

pub loop-y-preserved : goal.loop-y-preserved
loop-y-preserved c =
    let a = c.args in
    filled_more a.width (row-length a.width a.cells.now) c.loop-y.invariant c.put_row.ensures
