-- The tile is unpacked into what is lent.
use Prim.Native.Nat.{◌*◌}
use native.Mathlib.Omega.{arith}
use Rattle.tile.proofs.Native.{Native, fitting}
use Rattle.picture.proofs.Checks.{native-tile}
use Rattle.picture.proofs.Drawing.{unpacks-at, unpacked-whole}
use Rattle.picture.proofs.stored.read_tile.Goals as goal
use Rattle.picture.proofs.stored.read_tile.Goals.{Start}

tiled : (c : Start) → Native c.args.m c.args.depth 8 8
tiled c = native-tile c.requires.0.mode c.requires.0.map c.requires.0.depth

pub overflow_mul-depth : goal.overflow_mul-depth
overflow_mul-depth c = omega (arith, (fitting (tiled (goal.at.overflow_mul-depth c).Start)).deep)

pub put_pixels-requires : goal.put_pixels-requires
put_pixels-requires c = unpacks-at c.packing_of-p.ensures (tiled (goal.at.put_pixels-requires c).Start) _ _ _ c.requires.0.inside c.requires.1

pub returns : goal.returns
returns c =
    unpacked-whole c.packing_of-p.ensures (tiled (goal.at.returns c).Start) c.args.tiles.now c.args.out.now _ (c.args.k * (c.args.depth * 8)) c.requires.1 c.put_pixels.ensures
