-- The checks in the order of their numbers.
use mathlib.Core.Path.{◌≡◌, sym, ap, ◌∙◌}
use mathlib.Core.Bool.{Bool, true, false, cond}
use Prim.Native.Nat.{ℕ, ◌<◌}
use native.Mathlib.Omega.{arith}
use lib.Dec.{eqb}
use borrow.Author.Tests.{lt-ltb, le-ltb}
use Rattle.words.proofs.Answers.{last-given}
use Rattle.mapentry.specs.Entry.{misfit_of, misfit_says, entry_says}
use Rattle.mapentry.specs.declared.Mapentry.{Mapentry}
use Rattle.words.proofs.Refusing.{passed_on}
use Rattle.mapentry.proofs.entry_says.Goals as goal

-- what is left to check of a number that is a mode's
of-mode : (k m : ℕ) (e : Mapentry) (b : Bool) → (m ≡ k) × (k < 16) → b ≡ eqb m 10 → cond b 2 (misfit_says (misfit_of m e)) ≡ entry_says k e
unfolding entry_says
of-mode k m e true is t = rw (← is.0, le-ltb 15 m (omega arith), ← t)
of-mode k m e false is t = rw (← is.0, le-ltb 15 m (omega arith), ← t) (last-given (misfit_says (misfit_of m e)))

pub returns-in_err-m-clause-says : goal.returns-in_err-m-clause-says
unfolding entry_says
returns-in_err-m-clause-says c =
    rw (passed_on c.from_residual.result c.in_err-m.field-0.0 c.from_residual.ensures.1, c.in_err-m.ensures.0, lt-ltb 15 _ c.in_err-m.ensures.1)

pub returns-then-eq-clause-says : goal.returns-then-eq-clause-says
returns-then-eq-clause-says c =
    of-mode c.args.mode c.in_ok-m.m c.args.e true c.in_ok-m.ensures (sym c.if-eq.true ∙ c.eq.ensures)

pub returns-in-Some-clause-says : goal.returns-in-Some-clause-says
returns-in-Some-clause-says c =
    c.from.ensures
    ∙ ap misfit_says (sym c.in-Some.is ∙ c.first_misfit.ensures)
    ∙ of-mode c.args.mode c.in_ok-m.m c.args.e false c.in_ok-m.ensures (sym c.if-eq.false ∙ c.eq.ensures)

pub returns-in-None-clause-says : goal.returns-in-None-clause-says
returns-in-None-clause-says c =
    ap misfit_says (sym c.in-None.is ∙ c.first_misfit.ensures)
    ∙ of-mode c.args.mode c.in_ok-m.m c.args.e false c.in_ok-m.ensures (sym c.if-eq.false ∙ c.eq.ensures)
