use Rattle.std.proofs.Common.{◌-◌, ◌/◌, sym, arith, rules, length-set}
use mathlib.Core.List.{append-nil}
use Rattle.sheet.specs.Numbers.{decimal}
use Rattle.sheet.proofs.Writing.{digit-more, digit-last, fewer, some_left}
use Rattle.sheet.proofs.text.Numeral.new.Goals as goal

pub loop-left-init : goal.loop-left-init
loop-left-init c =
    record {
      some = omega arith;
      most = omega arith;
      few = omega arith;
      size = search rules;
      digits = sym (append-nil (decimal c.args.n));
    }

pub loop-left-preserved : goal.loop-left-preserved
loop-left-preserved c =
    let l = c.loop-left in
    let i = l.invariant in
    let less = fewer l.left l.from c.loop-left-test.true i.few in
    record {
      some = some_left (l.left / 10) (l.from - 1) (omega arith) less;
      most = omega arith;
      few = less;
      size = simp length-set (omega arith);
      digits = digit-more (decimal c.args.n) l.bytes l.left l.from c.loop-left-test.true i.few (omega arith) i.digits;
    }

pub returns : goal.returns
returns c =
    let l = c.loop-left in
    let i = l.invariant in
    sym (digit-last (decimal c.args.n) l.bytes l.left l.from (omega arith) i.few i.some (omega arith) i.digits)
