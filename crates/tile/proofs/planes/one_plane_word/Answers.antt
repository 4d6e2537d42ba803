-- Where each of its bits comes from was computed.
use mathlib.Core.Path.{ap, ◌∙◌}
use Rattle.tile.specs.Packings.{planar}
use Rattle.tile.specs.Inner.{reversed_bytes}
use Rattle.tile.proofs.Wires.{turned-is, eight-value, ones, ones-are}
use Rattle.tile.proofs.planes.one_plane_word.Goals as goal

pub returns : goal.returns
unfolding ones
returns c =
    let a = c.args in
    turned-is (planar 1 8 8 8).bytes 8 ones ones-are a.ws.now c.fits-ws a.b _ _ c.requires
    (c.reverse_bytes.ensures ∙ ap reversed_bytes (c.gather.ensures ∙ eight-value a.ws.now 0 a.b))
    c.cross.ensures
