-- The checks, one after the other.
use mathlib.Core.Path.{◌≡◌, sym, ap, ◌∙◌}
use mathlib.Core.Bool.{true, false}
use lib.Dec.{ltb, eqb}
use borrow.Author.Tests.{lt-ltb, le-ltb}
use native.Mathlib.Omega.{arith}
use Rattle.mode.specs.Table.{has_depth, pce-sprite}
use Rattle.picture.specs.Converting.{is_span, size_says}
use Rattle.words.proofs.Refusing.{answered-again}
use Rattle.picture.proofs.size_says.Goals as goal
use Rattle.picture.proofs.size_says.Goals.{Else-eq, Else-not-has_depth, Else-not-is_span, In_ok-m}

-- what each check that passed says
known : (c : In_ok-m) → ltb 15 c.args.mode ≡ false
known c = let m = c.in_ok-m.ensures in le-ltb 15 c.args.mode (omega arith)

mapped : (c : Else-eq) → eqb c.args.mode pce-sprite ≡ false
mapped c = ap (λ m. eqb m pce-sprite) (sym c.in_ok-m.ensures.0) ∙ sym c.eq.ensures ∙ c.if-eq.false

deep : (c : Else-not-has_depth) → let a = c.args in has_depth a.mode a.depth ≡ true
deep c = ap (λ m. has_depth m c.args.depth) (sym c.in_ok-m.ensures.0) ∙ sym c.has_depth.ensures ∙ c.if-not-has_depth.false

across : (c : Else-not-is_span) → is_span c.args.columns ≡ true
across c = sym c.is_span.ensures ∙ c.if-not-is_span.false

pub returns-in_err-m : goal.returns-in_err-m
unfolding size_says
returns-in_err-m c = answered-again _ c.from_residual.result c.from_residual.ensures.1 ∙ rw (c.in_err-m.ensures.0, lt-ltb 15 _ c.in_err-m.ensures.1)

pub returns-then-eq : goal.returns-then-eq
unfolding size_says
returns-then-eq c = rw (known (goal.at.returns-then-eq c).In_ok-m, ap (λ m. eqb m pce-sprite) (sym c.in_ok-m.ensures.0) ∙ sym c.eq.ensures ∙ c.if-eq.true)

pub returns-then-not-has_depth : goal.returns-then-not-has_depth
unfolding size_says
returns-then-not-has_depth c =
    rw (known (goal.at.returns-then-not-has_depth c).In_ok-m, mapped (goal.at.returns-then-not-has_depth c).Else-eq, ap (λ m. has_depth m c.args.depth) (sym c.in_ok-m.ensures.0) ∙ sym c.has_depth.ensures ∙ c.if-not-has_depth.true)

pub returns-then-not-is_span : goal.returns-then-not-is_span
unfolding size_says
returns-then-not-is_span c =
    rw (known (goal.at.returns-then-not-is_span c).In_ok-m, mapped (goal.at.returns-then-not-is_span c).Else-eq, deep (goal.at.returns-then-not-is_span c).Else-not-has_depth, sym c.is_span.ensures ∙ c.if-not-is_span.true)

pub returns-then-not-is_span-2 : goal.returns-then-not-is_span-2
unfolding size_says
returns-then-not-is_span-2 c =
    rw (known (goal.at.returns-then-not-is_span-2 c).In_ok-m, mapped (goal.at.returns-then-not-is_span-2 c).Else-eq, deep (goal.at.returns-then-not-is_span-2 c).Else-not-has_depth, across (goal.at.returns-then-not-is_span-2 c).Else-not-is_span, sym c.is_span-2.ensures ∙ c.if-not-is_span-2.true)

pub returns : goal.returns
unfolding size_says
returns c =
    rw (known (goal.at.returns c).In_ok-m, mapped (goal.at.returns c).Else-eq, deep (goal.at.returns c).Else-not-has_depth, across (goal.at.returns c).Else-not-is_span, sym c.is_span-2.ensures ∙ c.if-not-is_span-2.false)
