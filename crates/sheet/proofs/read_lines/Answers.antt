use Rattle.std.proofs.Common.{refl, sym, ap, ◌∙◌, arith, length-take, length-drop, length-set}
use Rattle.picture.specs.declared.Settings.{Settings}
use Rattle.std.specs.Prelude.{Some}
use Rattle.sheet.specs.Sheet.{sheet_lines, sheet, sheet_of, lines_in}
use Rattle.sheet.proofs.Reading.{lines_cut, lines-wrong, lines_more, lines_end}
use Rattle.sheet.proofs.read_lines.Goals as goal

pub loop-k-init : goal.loop-k-init
unfolding sheet_lines
loop-k-init c = record { inside = omega arith; size = refl; read = refl }

pub returns-then-rest-end : goal.returns-then-rest-end
unfolding lines_in sheet_lines
returns-then-rest-end c =
    let l = c.loop-k in
    sym (ap sheet_of (l.invariant.read ∙ lines_cut c.args.s.now l.values l.k l.start c.loop-k-test.true c.line_length-end.ensures.0 c.if-rest-end.true))

pub returns-in_err-values : goal.returns-in_err-values
unfolding lines_in sheet_lines
returns-in_err-values c =
    let l = c.loop-k in
    let told = sym c.line_says.ensures ∙ c.in_err-values.was in
    c.from_residual.ensures
    ∙ sym (ap sheet_of (l.invariant.read ∙ lines-wrong c.args.s.now l.values l.k l.start c.loop-k-test.true c.line_length-end.ensures.0 refl c.if-rest-end.false told))

pub loop-k-preserved : goal.loop-k-preserved
unfolding sheet_lines
loop-k-preserved c =
    let l = c.loop-k in
    let told = sym c.line_says.ensures ∙ c.in_ok-values.was in
    record {
      inside = omega (arith, simp (length-take, length-drop) at c.if-rest-end.false);
      size = simp length-set (omega (arith, l.invariant.size));
      read = l.invariant.read ∙ lines_more c.args.s.now l.values l.k l.start c.loop-k-test.true c.line_length-end.ensures.0 refl c.if-rest-end.false c.in_ok-values.field-0 (omega (arith, l.invariant.size)) told;
    }

pub returns : goal.returns
unfolding lines_in sheet_lines
returns c =
    let l = c.loop-k in
    ap (λ (z : Settings). Some (sheet z l.start)) c.settings.ensures
    ∙ sym (ap sheet_of (l.invariant.read ∙ lines_end c.args.s.now l.values l.k l.start c.loop-k-test.false (omega (arith, l.invariant.size))))
