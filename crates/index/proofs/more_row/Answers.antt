-- The row's two numbers, one after the other.
use Rattle.flip.specs.Flips.{flipped}
use Rattle.index.proofs.Keys.{row_more}
use Rattle.index.proofs.more_row.Goals as goal

pub returns : goal.returns
returns c = (
  row_more (flipped c.args.f 8 8 c.args.tile.now) c.args.y c.requires.1 c.four.ensures.0 c.more-left.ensures.0
      c.four-2.ensures.0 c.more.ensures.0,
  c.more.ensures.1,
)
