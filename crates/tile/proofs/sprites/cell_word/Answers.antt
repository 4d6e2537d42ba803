-- Where each of its bits comes from was computed.
use mathlib.Core.Path.{ap, ◌∙◌}
use Prim.Native.Nat.{ℕ, ◌*◌, ◌/◌, ◌%◌}
use lib.ListN.{get_or}
use Rattle.tile.specs.Inner.{cell, crossed}
use Rattle.tile.proofs.Wires.{word-is, cross-value, eight-value, eight, cell_plane, cell-plane-is}
use Rattle.tile.proofs.sprites.cell_word.Goals as goal

pub returns : goal.returns
unfolding cell_plane
returns c =
    let a = c.args in
    let e : ℕ → ℕ = λ i. get_or a.ws.now i 0 in
    c.cross.ensures ∙ ap crossed (c.gather.ensures ∙ eight-value a.ws.now (a.b % 4 * 8) (a.b / 4))
    ∙ cross-value e (eight (a.b % 4 * 8) (a.b / 4))
    ∙ word-is cell 16 cell_plane cell-plane-is a.ws.now c.fits-ws a.b c.requires
