-- The checks, one after the other.
use mathlib.Core.Path.{◌≡◌, sym, ap, ◌∙◌}
use mathlib.Core.Bool.{false, ◌&&◌}
use Prim.Native.Nat.{◌≤◌}
use native.Mathlib.Nat.{mul-le-mul}
use native.Mathlib.Omega.{arith}
use lib.Dec.{eqb}
use Rattle.mode.specs.Table.{row}
use Rattle.mapentry.specs.Entry.{misfit_of, misfit_says}
use Rattle.mapentry.proofs.Laws.{small}
use Rattle.picture.specs.Entries.{entry_as}
use Rattle.picture.specs.Converting.{places, size_says}
use Rattle.words.proofs.Refusing.{answered-again, refusal-not-done}
use Rattle.picture.proofs.Checks.{IsSize, size_of, few-tiles, asked-size, asked-5, asked-7, asked-misfit, asked-11, asked-0}
use Rattle.picture.proofs.asked_says.Goals as goal
use Rattle.picture.proofs.asked_says.Goals.{After-mapentry_size, Else-lacks_flips, In_ok-palette_says, In_ok-size_says}

none : (c : In_ok-size_says) → size_says c.args.settings.mode c.args.settings.depth c.args.settings.columns c.args.settings.rows ≡ 0
none c = sym c.in_ok-size_says.ensures

sound : (c : In_ok-size_says) → IsSize c.args.settings.mode c.args.settings.depth c.args.settings.columns c.args.settings.rows
sound c = size_of _ _ _ _ (none c)

allowed : (c : Else-lacks_flips) → (c.args.settings.flip && eqb (row c.args.settings.mode).flips 0) ≡ false
allowed c = ap (λ m. c.args.settings.flip && eqb (row m).flips 0) (sym c.at-m.ensures) ∙ sym c.lacks_flips.ensures ∙ c.if-lacks_flips.false

fits : (c : In_ok-palette_says) → misfit_says (misfit_of c.args.settings.mode (entry_as 0 c.args.settings.palette false false)) ≡ 0
fits c = ap (λ m. misfit_says (misfit_of m (entry_as 0 c.args.settings.palette false false))) (sym c.at-m.ensures) ∙ sym c.in_ok-palette_says.ensures

pub returns-in_err-size_says : goal.returns-in_err-size_says
returns-in_err-size_says c =
    let n = answered-again _ c.from_residual.result c.from_residual.ensures.1 in
    asked-size c.args.settings _ _ _ (n ∙ c.in_err-size_says.ensures) (λ z. refusal-not-done _ (sym n ∙ z))

pub at-m-requires : goal.at-m-requires
at-m-requires c = (sound (goal.at.at-m-requires c).In_ok-size_says).mode

pub returns-then-lacks_flips : goal.returns-then-lacks_flips
returns-then-lacks_flips c = asked-5 c.args.settings _ _ (none (goal.at.returns-then-lacks_flips c).In_ok-size_says) (ap (λ m. c.args.settings.flip && eqb (row m).flips 0) (sym c.at-m.ensures) ∙ sym c.lacks_flips.ensures ∙ c.if-lacks_flips.true)

pub overflow_mul-count : goal.overflow_mul-count
overflow_mul-count c = omega (arith, few-tiles (sound (goal.at.overflow_mul-count c).In_ok-size_says))

pub overflow_mul-count-2 : goal.overflow_mul-count-2
overflow_mul-count-2 c = omega (arith, few-tiles (sound (goal.at.overflow_mul-count-2 c).In_ok-size_says))

pub returns-then-len-count : goal.returns-then-len-count
returns-then-len-count c =
    asked-7 (c.args.settings) _ _ (none (goal.at.returns-then-len-count c).In_ok-size_says) (allowed (goal.at.returns-then-len-count c).Else-lacks_flips) c.if-len-count.true

pub returns-in_err-palette_says : goal.returns-in_err-palette_says
returns-in_err-palette_says c =
    let n = answered-again _ c.from_residual-in_err-palette_says.result c.from_residual-in_err-palette_says.ensures.1 in
    asked-misfit (c.args.settings) _ _ (none (goal.at.returns-in_err-palette_says c).In_ok-size_says) (allowed (goal.at.returns-in_err-palette_says c).Else-lacks_flips) c.if-len-count.false _
    (n ∙ c.in_err-palette_says.ensures ∙ ap (λ m. misfit_says (misfit_of m (entry_as 0 c.args.settings.palette false false))) c.at-m.ensures) (λ z. refusal-not-done _ (sym n ∙ z))

sized : (c : After-mapentry_size) → c.mapentry_size.result ≡ (row c.args.settings.mode).entry
sized c = c.mapentry_size.ensures ∙ ap (λ m. (row m).entry) c.at-m.ensures

pub overflow_mul-count-3 : goal.overflow_mul-count-3
overflow_mul-count-3 c =
    let two : c.mapentry_size.result ≤ 2 = omega (arith, sized c, (small c.args.settings.mode (sound (goal.at.overflow_mul-count-3 c).In_ok-size_says).mode).entry) in
    omega (arith, mul-le-mul {n₁ = places (c.args.settings)} {m₁ = c.mapentry_size.result} {n₂ = 4096} {m₂ = 2} (few-tiles (sound (goal.at.overflow_mul-count-3 c).In_ok-size_says)) two)

pub returns-then-space-count : goal.returns-then-space-count
returns-then-space-count c =
    asked-11 (c.args.settings) _ _ (none (goal.at.returns-then-space-count c).In_ok-size_says) (allowed (goal.at.returns-then-space-count c).Else-lacks_flips) c.if-len-count.false (fits (goal.at.returns-then-space-count c).In_ok-palette_says) (rw (← sized (goal.at.returns-then-space-count c).After-mapentry_size) c.if-space-count.true)

pub returns : goal.returns
returns c =
    asked-0 (c.args.settings) _ _ (none (goal.at.returns c).In_ok-size_says) (allowed (goal.at.returns c).Else-lacks_flips) c.if-len-count.false (fits (goal.at.returns c).In_ok-palette_says) (rw (← sized (goal.at.returns c).After-mapentry_size) c.if-space-count.false)
