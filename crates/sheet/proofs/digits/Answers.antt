use Rattle.std.proofs.Common.{◌≡◌, ◌+◌, ◌*◌, sym, ◌∙◌, arith}
use Rattle.sheet.proofs.Reading.{digit-is, digits-none, digits-over, digits_more, digits-end}
use Rattle.sheet.proofs.digits.Goals as goal

pub returns-in_err-digit : goal.returns-in_err-digit
returns-in_err-digit c =
    let l = c.loop-b in
    let other = c.in_err-digit.ensures.cases in
    c.from_residual.ensures
    ∙ sym (l.invariant ∙ digits-none c.args.s.now l.b-index l.n c.loop-b-test.true (λ low high. omega (arith, other (omega arith) (omega arith))))

pub returns-in_err-checked_mul : goal.returns-in_err-checked_mul
returns-in_err-checked_mul c =
    let l = c.loop-b in
    let d = c.in_ok-digit.digit in
    let told = c.in_ok-digit.ensures in
    let is = sym c.from.ensures ∙ digit-is c.from.result d told.cases (omega (arith, told.value)) in
    c.from_residual-in_err-checked_mul.ensures
    ∙ sym (l.invariant ∙ digits-over c.args.s.now l.b-index l.n c.loop-b-test.true d is (omega (arith, told.value)) (omega (arith, c.in_err-checked_mul.ensures)))

pub returns-in_err-n : goal.returns-in_err-n
returns-in_err-n c =
    let l = c.loop-b in
    let d = c.in_ok-digit.digit in
    let told = c.in_ok-digit.ensures in
    let is = sym c.from.ensures ∙ digit-is c.from.result d told.cases (omega (arith, told.value)) in
    c.from_residual-in_err-n.ensures
    ∙ sym (l.invariant ∙ digits-over c.args.s.now l.b-index l.n c.loop-b-test.true d is (omega (arith, told.value)) (omega (arith, c.in_ok-checked_mul.ensures, c.in_err-n.ensures)))

pub loop-b-preserved : goal.loop-b-preserved
loop-b-preserved c =
    let l = c.loop-b in
    let d = c.in_ok-digit.digit in
    let told = c.in_ok-digit.ensures in
    let is = sym c.from.ensures ∙ digit-is c.from.result d told.cases (omega (arith, told.value)) in
    let ten = c.in_ok-checked_mul.ensures in
    let sum = c.in_ok-n.ensures in
    let same : l.n * 10 + d ≡ c.in_ok-n.n = omega (arith, ten, sum) in
    l.invariant ∙ digits_more c.args.s.now l.b-index l.n c.loop-b-test.true d is (omega (arith, told.value)) (omega (arith, ten, sum)) ∙ rw same

pub returns : goal.returns
returns c = sym (c.loop-b.invariant ∙ digits-end c.args.s.now c.loop-b.b-index c.loop-b.n (omega arith))
