-- Where each of its bits comes from was computed.
use Rattle.tile.specs.Packings.{planar}
use Rattle.tile.proofs.Wiring.{value}
use Rattle.tile.proofs.Wires.{turned-is, one, part, two, fours, fours-are}
use Rattle.tile.proofs.planes.four_word.Goals as goal

pub returns : goal.returns
unfolding value fours two one part
returns c =
    turned-is (planar 4 8 8 8).bytes 8 fours fours-are c.args.ws.now c.fits-ws c.args.b _ _ c.requires
    c.reverse_bytes.ensures c.cross.ensures
