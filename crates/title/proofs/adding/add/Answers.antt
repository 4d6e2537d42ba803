-- Refused, or stored at the end: discarding is off, or nothing was found.
use mathlib.Core.Path.{sym, ◌∙◌}
use borrow.Author.Tests.{not-true}
use Rattle.tileset.proofs.AddingLaws.{discards-off, discards-new}
use Rattle.title.proofs.AddingLaws.{title_passed_on, store-title}
use Rattle.title.proofs.adding.add.Goals as goal

pub returns-in_err-says : goal.returns-in_err-says
returns-in_err-says c =
    let a = c.args in
    title_passed_on a.set a.count a.common.now a.store.now a.pixels.now c.from_residual.result _ c.in_err-says.ensures c.from_residual.ensures.1

pub returns-then-not-set : goal.returns-then-not-set
returns-then-not-set c =
    let a = c.args in
    store-title a.set a.count a.common.now a.store.now a.pixels.now (sym c.in_ok-says.ensures)
    (discards-off a.set _ (not-true a.set.discarding c.if-not-set.true)) c.append.ensures

pub returns-in_default : goal.returns-in_default
returns-in_default c =
    let a = c.args in
    store-title a.set a.count a.common.now a.store.now a.pixels.now (sym c.in_ok-says.ensures)
    (discards-new a.set _ (sym c.found_in.ensures ∙ c.in_default.is)) c.append-in_default.ensures
