-- The repeated bits of a component, where there is such a mode and such a component.
use mathlib.Core.Path.{◌≡◌}
use mathlib.Core.Bool.{false}
use Prim.Native.Nat.{◌<◌, ◌≤◌}
use native.Mathlib.Omega.{arith}
use lib.Dec.{ltb}
use borrow.Author.Tests.{lt-ltb, le-ltb}
use Rattle.mode.specs.Table.{row}
use Rattle.words.proofs.Refusing.{passed_on}
use Rattle.color.proofs.Places.{few-bits}
use Rattle.color.proofs.Channels.{copies-right}
use Rattle.color.proofs.scale_up.Goals as goal

pub returns-in_err-try_from : goal.returns-in_err-try_from
returns-in_err-try_from c =
    rw (passed_on c.from_residual.result c.in_err-try_from.field-0.0 c.from_residual.ensures.1, c.in_err-try_from.ensures.0, lt-ltb 15 _ c.in_err-try_from.ensures.1)

pub returns : goal.returns
returns c =
    let m = c.args.mode in
    let is = c.in_ok-try_from.ensures.0 in
    let h : m < 16 = c.in_ok-try_from.ensures.1 in
    let said = c.component_of-top.ensures in
    let no : ltb 15 m ≡ false = le-ltb 15 m (omega (arith, h)) in
    let le : c.args.component ≤ (row m).top = rw (said.top.0, is) at c.if-top-component.false in
    rw (no, le-ltb _ _ le, c.repeated.ensures, said.bits.0, is, rw (few-bits m h).2 at (copies-right m h c.args.component le))
