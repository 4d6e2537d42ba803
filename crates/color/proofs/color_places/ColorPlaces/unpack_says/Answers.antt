-- The checks 7 and 11; that four bytes a colour have room is tested by division.
use Prim.Native.Nat.{◌*◌, ◌<◌, ◌≤◌}
use native.Mathlib.Omega.{arith}
use borrow.Author.Tests.{lt-ltb, le-ltb}
use Rattle.color.specs.Color.{unpack_says}
use Rattle.color.proofs.Places.{no-first}
use Rattle.color.proofs.color_places.ColorPlaces.unpack_says.Goals as goal

pub returns-then-not-can_unpack-clause-says : goal.returns-then-not-can_unpack-clause-says
unfolding unpack_says
returns-then-not-can_unpack-clause-says c = rw (no-first c.args.self, ← c.can_unpack.ensures, c.if-not-can_unpack.true)

pub returns-then-space-n-clause-says : goal.returns-then-space-n-clause-says
unfolding unpack_says
returns-then-space-n-clause-says c =
    let l = c.args.self in
    let short : c.args.space < 4 * c.color_count-n.result = omega arith in
    rw (no-first l, ← c.can_unpack.ensures, c.if-not-can_unpack.false, ← l.four_is, ← l.size_is, ← c.color_count-n.ensures, lt-ltb _ _ short)

pub returns-clause-says : goal.returns-clause-says
unfolding unpack_says
returns-clause-says c =
    let l = c.args.self in
    let enough : 4 * c.color_count-n.result ≤ c.args.space = omega arith in
    rw (no-first l, ← c.can_unpack.ensures, c.if-not-can_unpack.false, ← l.four_is, ← l.size_is, ← c.color_count-n.ensures, le-ltb _ _ enough)
