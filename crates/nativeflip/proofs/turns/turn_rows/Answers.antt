-- Each return has its rows, which are computed where the exchanges are.
use mathlib.Core.Path.{sym, subst}
use Prim.Native.Nat.{ℕ}
use borrow.Author.Rules.{rules}
use Rattle.nativeflip.specs.Inner.{RowsBack}
use Rattle.nativeflip.proofs.Wires.{rows-8, rows-4, rows-2, rows-1, last_row}
use Rattle.nativeflip.proofs.turns.turn_rows.Goals as goal

pub returns-then-row-eq8 : goal.returns-then-row-eq8
returns-then-row-eq8 c = let w = c.args.w in subst (λ (n : ℕ). RowsBack n w w) (sym c.if-row-eq8.true) (rows-8 w)

pub returns-then-row-eq4 : goal.returns-then-row-eq4
returns-then-row-eq4 c =
    let w = c.args.w in
    let h = c.exchange-halves in
    subst (λ (n : ℕ). RowsBack n w h.result) (sym c.if-row-eq4.true) (rows-4 w (search rules) h.ensures)

pub returns-then-row-eq2 : goal.returns-then-row-eq2
returns-then-row-eq2 c =
    let w = c.args.w in
    let d = c.exchange-doubles in
    subst (λ (n : ℕ). RowsBack n w d.result) (sym c.if-row-eq2.true) (rows-2 w (search rules) c.exchange-halves.ensures d.ensures)

pub returns : goal.returns
returns c =
    let w = c.args.w in
    let d = c.exchange-doubles in
    let h = c.exchange-halves in
    let one = last_row c.args.row c.requires c.if-row-eq8.false c.if-row-eq4.false c.if-row-eq2.false in
    subst (λ (n : ℕ). RowsBack n w c.exchange.result) (sym one) (rows-1 w (search rules) h.ensures d.ensures c.exchange.ensures)
