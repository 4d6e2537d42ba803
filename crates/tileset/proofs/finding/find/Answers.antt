use Rattle.std.specs.Prelude.{Some, None}
use mathlib.Core.Path.{◌≡◌, sym, ◌∙◌}
use Prim.Native.Nat.{◌*◌}
use lib.ListN.{take, drop}
use Rattle.tileset.proofs.Search.{matching, look-start, found-miss, found-hit, found-end}
use Rattle.tileset.proofs.finding.find.Goals as goal

pub loop-k-init : goal.loop-k-init
loop-k-init c = look-start _ _ _ _ _ _ _

pub loop-k-preserved : goal.loop-k-preserved
loop-k-preserved c =
    let a = c.args in
    let n = a.width * a.height in
    let k = c.loop-k.k in
    let miss : matching a.flips a.width a.height a.tile.now (take n (drop (k * n) a.store.now)) ≡ None = cc in
    c.loop-k.invariant ∙ found-miss _ _ _ _ k c.loop-k-test.true miss

pub returns-in-Some : goal.returns-in-Some
returns-in-Some c =
    let a = c.args in
    let n = a.width * a.height in
    let k = c.loop-k.k in
    let hit : matching a.flips a.width a.height a.tile.now (take n (drop (k * n) a.store.now)) ≡ Some c.in-Some.f = cc in
    sym (c.loop-k.invariant ∙ found-hit _ _ _ _ k _ c.loop-k-test.true hit)

pub returns : goal.returns
returns c = sym (c.loop-k.invariant ∙ found-end _ _ _ _ c.loop-k.k c.loop-k-test.false)
