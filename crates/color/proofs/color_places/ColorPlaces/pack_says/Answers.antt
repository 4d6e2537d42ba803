-- The checks 7, 9 and 11, in this order.
use borrow.Author.Tests.{lt-ltb, le-ltb}
use Rattle.color.specs.Color.{pack_says}
use Rattle.color.proofs.Places.{no-first}
use Rattle.color.proofs.color_places.ColorPlaces.pack_says.Goals as goal

pub returns-then-not-can_pack-clause-says : goal.returns-then-not-can_pack-clause-says
unfolding pack_says
returns-then-not-can_pack-clause-says c =
    let l = c.args.self in
    rw (no-first l, ← l.four_is, ← c.can_pack.ensures, c.if-not-can_pack.true)

pub returns-then-some_above-clause-says : goal.returns-then-some_above-clause-says
unfolding pack_says
returns-then-some_above-clause-says c =
    let l = c.args.self in
    rw (no-first l, ← l.four_is, ← c.can_pack.ensures, c.if-not-can_pack.false, ← l.top_is, ← c.some_above.ensures, c.if-some_above.true)

pub returns-then-space-size-clause-says : goal.returns-then-space-size-clause-says
unfolding pack_says
returns-then-space-size-clause-says c =
    let l = c.args.self in
    rw (no-first l, ← l.four_is, ← c.can_pack.ensures, c.if-not-can_pack.false, ← l.top_is, ← c.some_above.ensures, c.if-some_above.false)
    (rw (← l.size_is, ← c.packed_size-size.ensures, lt-ltb _ _ c.if-space-size.true))

pub returns-clause-says : goal.returns-clause-says
unfolding pack_says
returns-clause-says c =
    let l = c.args.self in
    rw (no-first l, ← l.four_is, ← c.can_pack.ensures, c.if-not-can_pack.false, ← l.top_is, ← c.some_above.ensures, c.if-some_above.false)
    (rw (← l.size_is, ← c.packed_size-size.ensures, le-ltb _ _ c.if-space-size.false))
