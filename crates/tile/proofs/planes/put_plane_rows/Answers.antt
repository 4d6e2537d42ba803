use mathlib.Core.Path.{◌≡◌}
use Prim.Native.Nat.{◌*◌}
use native.Mathlib.Omega.{arith}
use lib.ListN.{length}
use Rattle.tile.specs.Layout.{element}
use Rattle.tile.specs.Packings.{planar}
use Rattle.tile.proofs.Filling.{word_next, tile-stored}
use Rattle.tile.proofs.Columns.{planar-row-is}
use Rattle.tile.proofs.planes.put_plane_rows.Goals as goal
use Rattle.tile.proofs.planes.put_plane_rows.Goals.{Start}

pub loop-r-preserved : goal.loop-r-preserved
loop-r-preserved c =
    let a = c.args in
    let l = c.loop-r in
    let ws = c.column_words-ws in
    let w = c.planar_row in
    let long : length a.bytes.now ≡ a.depth * 8 = omega (arith, c.requires.whole) in
    let is = planar-row-is _ _ c.requires.sound a.bytes.now ws.result l.r w.result ws.ensures long (omega arith) w.ensures in
    let side = (planar a.group a.depth 8 8).pixels in
    word_next (element side a.bytes.now) w.result l.invariant c.put_bytes.ensures is

pub returns : goal.returns
returns c =
    let a = c.args in
    tile-stored (planar a.group a.depth 8 8).pixels a.bytes.now 8 c.loop-r.invariant (omega arith) (omega arith)
