-- Where each of its bits comes from was computed.
use borrow.Author.Rules.{rules}
use Rattle.tile.specs.Inner.{strands}
use Rattle.tile.proofs.Wiring.{value}
use Rattle.tile.proofs.Wires.{word-is, one, part, four, pair_row, pair-row-is}
use Rattle.tile.proofs.planes.pair_row.Goals as goal

pub returns : goal.returns
unfolding value pair_row four one part
returns c = word-is (strands 2) 8 pair_row pair-row-is c.args.ws.now (search rules) c.args.r c.requires
