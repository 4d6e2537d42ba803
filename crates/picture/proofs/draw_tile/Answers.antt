-- The tile is unpacked into a buffer of its own, and put under its flip.
use mathlib.Core.Path.{ap, ◌∙◌}
use Prim.Native.Nat.{ℕ, ◌*◌}
use lib.ListN.{take, drop}
use Rattle.tile.specs.Tile.{unpacked}
use Rattle.picture.proofs.Drawing.{drawn-is}
use Rattle.picture.proofs.draw_tile.Goals as goal

pub returns : goal.returns
returns c =
    let a = c.args in
    let size = a.depth * 8 in
    drawn-is a.m a.depth a.tiles.now a.e _ _ a.at c.put_flipped.ensures
    (c.read_tile.ensures ∙ ap (λ (k : ℕ). unpacked a.m a.depth 8 8 (take size (drop (k * size) a.tiles.now))) c.tile_named.ensures)
