-- One byte, or two in either order.
use mathlib.Core.Path.{◌≡◌}
use native.Mathlib.Omega.{arith}
use Rattle.words.proofs.Bytes.{word-1, word-2-least, word-2-most}
use Rattle.words.proofs.get_word.Goals as goal

pub returns-then-size-eq1 : goal.returns-then-size-eq1
returns-then-size-eq1 c =
    let a = c.args in
    (rw (c.if-size-eq1.true, c.from-first.ensures) (word-1 a.s.now a.at a.most (omega arith)), omega arith)

pub returns-then-most : goal.returns-then-most
returns-then-most c =
    let a = c.args in
    let two : a.size ≡ 2 = omega arith in
    (rw (two, c.if-most.true, c.from-second.ensures, c.from-first.ensures) (word-2-most a.s.now a.at (omega arith)), omega arith)

pub returns-else-most : goal.returns-else-most
returns-else-most c =
    let a = c.args in
    let two : a.size ≡ 2 = omega arith in
    (rw (two, c.if-most.false, c.from-second.ensures, c.from-first.ensures) (word-2-least a.s.now a.at (omega arith)), omega arith)
