-- The checks of the set and its store, then its pixels, then the room.
use mathlib.Core.Path.{sym, ◌∙◌}
use Prim.Native.Nat.{◌*◌, ◌≤◌}
use native.Mathlib.Nat.{mul-le-mul}
use native.Mathlib.Omega.{arith}
use lib.Seq.{length-take-le}
use Rattle.tileset.specs.Sets.{area}
use Rattle.tileset.proofs.Sizes.{IsSet}
use Rattle.tileset.proofs.Says.{held-set}
use Rattle.tileset.proofs.WritingLaws.{held-few, held-inside, counted, write-8, write-11, write-0}
use Rattle.tileset.proofs.writing.size_written.Goals as goal
use Rattle.tileset.proofs.writing.size_written.Goals.{Start}

sound : (c : Start) → let z = c.args.held.now.set in IsSet z.mode z.depth z.width z.height
sound c = held-set c.args.held.now.set _ c.args.held.now.held

pixels-few : (c : Start) → c.args.held.now.set.stored * area c.args.held.now.set ≤ 65535 * 4096
pixels-few c = mul-le-mul (held-few c.args.held.now.set _ c.args.held.now.held) ((sound c).small)

pub overflow_mul-count : goal.overflow_mul-count
overflow_mul-count c = omega (arith, (sound (goal.at.overflow_mul-count c).Start).small)

pub overflow_mul-count-2 : goal.overflow_mul-count-2
overflow_mul-count-2 c = omega (arith, pixels-few (goal.at.overflow_mul-count-2 c).Start)

pub overflow_cast-count : goal.overflow_cast-count
overflow_cast-count c = omega (arith, pixels-few (goal.at.overflow_cast-count c).Start)

pub slice_bounds-some_too_large-end : goal.slice_bounds-some_too_large-end
slice_bounds-some_too_large-end c =
    sym (length-take-le _ c.args.held.now.store.now (held-inside c.args.held.now.set _ c.args.held.now.held))

pub some_too_large-requires : goal.some_too_large-requires
some_too_large-requires c = (sound (goal.at.some_too_large-requires c).Start).deep

pub returns-then-some_too_large-clause-says : goal.returns-then-some_too_large-clause-says
returns-then-some_too_large-clause-says c =
    let a = c.args in
    write-8 a.held.now.set a.held.now.store.now a.space c.args.held.now.held (counted a.held.now.set a.held.now.store.now a.space c.args.held.now.held _ c.some_too_large.ensures ∙ c.if-some_too_large.true)

pub returns-then-space-size-clause-says : goal.returns-then-space-size-clause-says
returns-then-space-size-clause-says c =
    let a = c.args in
    let small = counted a.held.now.set a.held.now.store.now a.space c.args.held.now.held _ c.some_too_large.ensures ∙ c.if-some_too_large.false in
    write-11 a.held.now.set a.held.now.store.now a.space c.args.held.now.held small (omega (arith, c.write_size-size.ensures, c.if-space-size.true))

pub returns-clause-says : goal.returns-clause-says
returns-clause-says c =
    let a = c.args in
    let small = counted a.held.now.set a.held.now.store.now a.space c.args.held.now.held _ c.some_too_large.ensures ∙ c.if-some_too_large.false in
    write-0 a.held.now.set a.held.now.store.now a.space c.args.held.now.held small (omega (arith, c.write_size-size.ensures, c.if-space-size.false))
