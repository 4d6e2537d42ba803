-- The square of 32 bits fits 64.
use mathlib.Core.Path.{refl}
use Prim.Native.Nat.{◌≤◌}
use native.Mathlib.Nat.{mul-le-mul}
use native.Mathlib.Omega.{arith}
use Rattle.index.specs.InnerKeys.{mix}
use Rattle.index.proofs.mixed.Goals as goal

pub returns : goal.returns
unfolding mix
returns c =
    let p : c.args.a ≤ 4294967295 = omega arith in
    (refl, omega (arith, mul-le-mul {n₁ = c.args.a} {m₁ = c.args.a} {n₂ = 4294967295} {m₂ = 4294967295} p p))
