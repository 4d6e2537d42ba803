-- Where each of its bits comes from was computed.
use borrow.Author.Rules.{rules}
use Rattle.tile.specs.Inner.{nibbles}
use Rattle.tile.proofs.Wiring.{value}
use Rattle.tile.proofs.Wires.{word-is, apart, widen_by, spread_by, nibble_row, nibble-row-is}
use Rattle.tile.proofs.chunky.nibble_row.Goals as goal

pub returns : goal.returns
unfolding value nibble_row apart widen_by spread_by
returns g c =
    let u = g.row.UP in
    word-is (nibbles u).pixels 8 (nibble_row u) (nibble-row-is u c.requires.0) c.args.ws.now (search rules) c.args.r c.requires.1
