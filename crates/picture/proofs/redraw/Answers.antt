-- The checks, then the picture.
use mathlib.Core.Path.{◌≡◌, refl, sym, ap, ◌∙◌, subst}
use Prim.Native.Nat.{ℕ}
use native.Mathlib.Omega.{arith}
use lib.ListN.{length}
use Rattle.words.specs.Answers.{written, overwrite}
use Rattle.words.proofs.Answers.{done}
use Rattle.picture.specs.Inner.{Draws}
use Rattle.picture.specs.Redrawing.{redraw_says, drawn}
use Rattle.picture.proofs.Checks.{few-tiles}
use Rattle.picture.proofs.RedrawChecks.{redraw-sized, redraw-draws}
use Rattle.picture.proofs.Drawing.{picture-length}
use Rattle.picture.proofs.redraw.Goals as goal
use Rattle.picture.proofs.redraw.Goals.{In_ok-redraw_says}

none : (c : In_ok-redraw_says) → let a = c.args in redraw_says a.mode a.depth a.columns a.rows a.tiles.now a.map.now (length a.out.now) ≡ 0
none c = sym c.in_ok-redraw_says.ensures

pub draw-requires : goal.draw-requires
draw-requires c =
    let a = c.args in
    subst (λ m. Draws m a.depth a.columns a.rows a.tiles.now a.map.now a.out.now) (sym c.at.ensures) (redraw-draws _ _ _ _ _ _ _ (none (goal.at.draw-requires c).In_ok-redraw_says) refl)

pub at-requires : goal.at-requires
at-requires c = (redraw-sized _ _ _ _ _ _ _ (none (goal.at.at-requires c).In_ok-redraw_says)).mode

pub overflow_mul-result : goal.overflow_mul-result
overflow_mul-result c = omega (arith, few-tiles (redraw-sized _ _ _ _ _ _ _ (none (goal.at.overflow_mul-result c).In_ok-redraw_says)))

pub overflow_mul-result-2 : goal.overflow_mul-result-2
overflow_mul-result-2 c = omega (arith, few-tiles (redraw-sized _ _ _ _ _ _ _ (none (goal.at.overflow_mul-result-2 c).In_ok-redraw_says)))

pub overflow_cast-result : goal.overflow_cast-result
overflow_cast-result c = omega (arith, few-tiles (redraw-sized _ _ _ _ _ _ _ (none (goal.at.overflow_cast-result c).In_ok-redraw_says)))

pub returns : goal.returns
returns c =
    let a = c.args in
    let count = picture-length a.mode a.depth a.columns a.tiles.now a.map.now a.rows in
    done (none (goal.at.returns c).In_ok-redraw_says) (ap (λ (n : ℕ). written 0 n) (sym count)) (c.draw.ensures ∙ ap (λ m. overwrite a.out.now (drawn m a.depth a.columns a.rows a.tiles.now a.map.now)) c.at.ensures)
