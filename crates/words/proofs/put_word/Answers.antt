-- One byte, or two in either order.
use mathlib.Core.Path.{◌≡◌, refl}
use mathlib.Core.Bool.{Bool, true, false}
use mathlib.Core.List.{List}
use Prim.Native.Nat.{ℕ, ◌%◌}
use native.Mathlib.Omega.{arith}
use native.Mathlib.Numerals.{add-one}
use lib.ListN.{length-set, set}
use lib.Seq.{sets}
use Rattle.words.specs.Bytes.{bytes_of}
use Rattle.words.proofs.put_word.Goals as goal

one-put : (xs : List ℕ) (at : ℕ) (most : Bool) (w : ℕ) → set xs at (w % 256) ≡ sets xs at (bytes_of 1 most w)
one-put xs at true w = refl
one-put xs at false w = refl

pub returns-then-size-eq1 : goal.returns-then-size-eq1
returns-then-size-eq1 c =
    let a = c.args in
    rw c.if-size-eq1.true (one-put a.out.now a.at a.most a.word)

pub bounds-out-at-then-most-2 : goal.bounds-out-at-then-most-2
bounds-out-at-then-most-2 c = simp length-set (omega arith)

pub bounds-out-at-else-most-2 : goal.bounds-out-at-else-most-2
bounds-out-at-else-most-2 c = simp length-set (omega arith)

pub returns-then-most : goal.returns-then-most
returns-then-most c =
    let two : c.args.size ≡ 2 = omega arith in
    rw (two, c.if-most.true, add-one)

pub returns-else-most : goal.returns-else-most
returns-else-most c =
    let two : c.args.size ≡ 2 = omega arith in
    rw (two, c.if-most.false, add-one)
