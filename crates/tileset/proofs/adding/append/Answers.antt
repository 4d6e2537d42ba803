-- No room, or the tile at the end.
use Prim.Native.Nat.{◌+◌, ◌*◌, ◌≤◌, ◌<◌}
use native.Mathlib.Nat.{mul-pos}
use native.Mathlib.Omega.{arith}
use lib.ListN.{length}
use Rattle.tileset.proofs.Says.{room-left}
use Rattle.tileset.proofs.adding.append.Goals as goal
use Rattle.tileset.proofs.adding.append.Goals.{After-put_cut-arg-1, After-set_room, Start}

some-pixels : (c : Start) → 0 < length c.args.pixels.now
some-pixels c = rw c.requires.whole (mul-pos c.requires.some c.requires.tall)

fits : (c : After-put_cut-arg-1) → let a = c.args in
    a.set.stored * length a.pixels.now + length a.pixels.now ≤ length a.store.now
fits c =
    let some-pixels : 0 < length c.args.pixels.now =
    rw c.requires.whole (mul-pos c.requires.some c.requires.tall) in
    let a = c.args in
    room-left a.set.limit (length a.store.now) (length a.pixels.now) a.set.stored (some-pixels)
    (omega (arith, c.set_room.ensures, c.if-set_room-count.false))

pub put_cut-requires : goal.put_cut-requires
put_cut-requires c = record { deep = c.requires.deep; inside = fits c }
