use native.Mathlib.Omega.{arith}
use Rattle.index.proofs.Keys.{hash-none, pair_made}
use borrow.Author.Rules.{rules}
use Rattle.index.proofs.pair.Goals as goal

pub loop-y-init : goal.loop-y-init
loop-y-init c = record { plain = hash-none _; across = hash-none _; a_small = search rules; b_small = search rules }

pub returns : goal.returns
returns c =
    let h = c.loop-y.invariant in
    let a = c.mixed.ensures in
    let b = c.mixed-2.ensures in
    (pair_made h (omega arith) a.0 b.0, omega (arith, a.1, b.1))
