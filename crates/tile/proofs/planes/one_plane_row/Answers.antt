-- Where each of its bits comes from was computed.
use mathlib.Core.Path.{◌∙◌}
use Rattle.tile.specs.Inner.{strands}
use Rattle.tile.proofs.Wires.{word-is, eight-value, one_row, one-row-is}
use Rattle.tile.proofs.planes.one_plane_row.Goals as goal

pub returns : goal.returns
unfolding one_row
returns c =
    let a = c.args in
    c.gather.ensures ∙ eight-value a.ws.now 0 a.r
    ∙ word-is (strands 1) 8 one_row one-row-is a.ws.now c.fits-ws a.r c.requires
