-- Each return has its fields, which are computed where the exchanges are.
use mathlib.Core.Path.{sym, subst}
use Prim.Native.Nat.{ℕ}
use borrow.Author.Rules.{rules}
use Rattle.nativeflip.specs.Inner.{FieldsBack}
use Rattle.nativeflip.proofs.Wires.{fields-8, fields-4, fields-2, last-pixels}
use Rattle.nativeflip.proofs.turns.turn_fields.Goals as goal

pub returns-then-bits-eq8 : goal.returns-then-bits-eq8
returns-then-bits-eq8 c = let w = c.args.w in subst (λ (n : ℕ). FieldsBack n w w) (sym c.if-bits-eq8.true) (fields-8 w)

pub returns-then-bits-eq4 : goal.returns-then-bits-eq4
returns-then-bits-eq4 c =
    let w = c.args.w in
    let n = c.exchange-nibbles in
    subst (λ (k : ℕ). FieldsBack k w n.result) (sym c.if-bits-eq4.true) (fields-4 w (search rules) n.ensures)

pub returns : goal.returns
returns c =
    let w = c.args.w in
    let two = last-pixels c.args.bits c.requires c.if-bits-eq8.false c.if-bits-eq4.false in
    subst (λ (k : ℕ). FieldsBack k w c.exchange.result) (sym two) (fields-2 w (search rules) c.exchange-nibbles.ensures c.exchange.ensures)
