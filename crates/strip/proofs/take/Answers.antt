-- The checks; then the picture goes on, and the record tells how far.
use mathlib.Core.Path.{sym}
use Rattle.strip.proofs.Taking.{goes_on, asked_refused, step_refused, step_taken}
use Rattle.strip.proofs.take.Goals as goal

pub returns-in_err-strip_says : goal.returns-in_err-strip_says
returns-in_err-strip_says c =
    let a = c.args in
    asked_refused a.run a.pixels.now a.tiles.now a.map.now c.from_residual.result _ c.from_residual.ensures.1 c.in_err-strip_says.ensures

pub go_on-requires : goal.go_on-requires
go_on-requires c =
    let a = c.args in
    goes_on a.run a.pixels.now a.tiles.now a.map.now (sym c.in_ok-strip_says.ensures) c.settings-settings.ensures

pub returns-in_err-counts : goal.returns-in_err-counts
returns-in_err-counts c =
    let a = c.args in
    step_refused a.run a.pixels.now a.tiles.now a.map.now c.from_residual-in_err-counts.result _ c.from_residual-in_err-counts.ensures.1
    c.settings-settings.ensures (sym c.in_ok-strip_says.ensures) c.in_err-counts.ensures

pub returns : goal.returns
returns c =
    let a = c.args in
    step_taken a.run a.pixels.now a.tiles.now a.map.now _ c.settings-settings.ensures (sym c.in_ok-strip_says.ensures) c.in_ok-counts.ensures
