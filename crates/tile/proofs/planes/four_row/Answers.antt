-- Where each of its bits comes from was computed.
use borrow.Author.Rules.{rules}
use Rattle.tile.specs.Inner.{strands}
use Rattle.tile.proofs.Wiring.{value}
use Rattle.tile.proofs.Wires.{word-is, one, part, two, four_row, four-row-is}
use Rattle.tile.proofs.planes.four_row.Goals as goal

pub returns : goal.returns
unfolding value four_row two one part
returns c = word-is (strands 4) 8 four_row four-row-is c.args.ws.now (search rules) c.args.r c.requires
