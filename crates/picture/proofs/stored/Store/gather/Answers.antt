use Prim.Native.Nat.{◌≤◌}
use native.Mathlib.Nat.{mul-le-mul}
use native.Mathlib.Omega.{arith}
use Rattle.picture.specs.Converting.{places}
use Rattle.picture.proofs.Storing.{gather_none, gather-full, gather-more, gather-all, gathered-none, gathered-all}
use Rattle.picture.proofs.stored.Store.gather.Goals as goal
use Rattle.picture.proofs.stored.Store.gather.Goals.{Start}

few : (c : Start) → places c.args.source.now.settings ≤ 4096
few c =
    let z = c.args.source.now.settings in
    let p = c.requires.stored.picture in
    mul-le-mul {n₁ = z.columns} {m₁ = z.rows} {n₂ = 64} {m₂ = 64} p.narrow p.low

pub loop-i-init : goal.loop-i-init
loop-i-init c = gather_none c.requires

pub returns-in_err-codes : goal.returns-in_err-codes
returns-in_err-codes c =
    let full = gather-full _ _ c.loop-i.invariant c.loop-i-test.true _ c.in_err-codes.ensures.says in
    gathered-none _ c.from_residual.result c.from_residual.ensures.1 full

pub loop-i-preserved : goal.loop-i-preserved
loop-i-preserved c =
    let few = few (goal.at.loop-i-preserved c).Start in
    gather-more _ _ c.loop-i.invariant c.loop-i-test.true c.in_ok-codes.ensures few

pub returns : goal.returns
returns c = gathered-all (gather-all _ _ c.loop-i.invariant (omega (arith, c.loop-i-test.false, c.loop-i.auto.i-end)))
