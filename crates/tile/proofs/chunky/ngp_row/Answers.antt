-- Where each of its bits comes from was computed.
use borrow.Author.Rules.{rules}
use Rattle.tile.specs.Packings.{ngp}
use Rattle.tile.proofs.Wiring.{value}
use Rattle.tile.proofs.Wires.{word-is, spread_by, ngp_row, ngp-row-is}
use Rattle.tile.proofs.chunky.ngp_row.Goals as goal

pub returns : goal.returns
unfolding value ngp_row spread_by
returns c = word-is (ngp 8 8).pixels 8 ngp_row ngp-row-is c.args.ws.now (search rules) c.args.r c.requires
