-- Where each of its bits comes from was computed.
use Rattle.tile.specs.Packings.{planar}
use Rattle.tile.proofs.Wiring.{value}
use Rattle.tile.proofs.Wires.{turned-is, one, part, four, pairs, pairs-are}
use Rattle.tile.proofs.planes.pair_word.Goals as goal

pub returns : goal.returns
unfolding value pairs four one part
returns c =
    turned-is (planar 2 8 8 8).bytes 8 pairs pairs-are c.args.ws.now c.fits-ws c.args.b _ _ c.requires
    c.reverse_bytes.ensures c.cross.ensures
