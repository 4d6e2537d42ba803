-- Refused, or stored.
use mathlib.Core.Path.{sym, ◌∙◌}
use Rattle.tileset.specs.Finding.{found_in}
use Rattle.tileset.proofs.AddingLaws.{discards-off, discards-new, refuse-add, store-add}
use borrow.Author.Tests.{not-true}
use Rattle.tileset.proofs.adding.add.Goals as goal

pub returns-in_err-look_says : goal.returns-in_err-look_says
returns-in_err-look_says c =
    let a = c.args in
    refuse-add a.set a.store.now a.pixels.now _ c.in_err-look_says.field-0.0 c.in_err-look_says.ensures c.from_residual.ensures.1

pub returns-then-not-set : goal.returns-then-not-set
returns-then-not-set c =
    let a = c.args in
    store-add a.set a.store.now a.pixels.now (sym c.in_ok-look_says.ensures)
    (discards-off a.set (found_in a.set a.store.now a.pixels.now) (not-true a.set.discarding c.if-not-set.true)) c.append.ensures

pub returns-in_default : goal.returns-in_default
returns-in_default c =
    let a = c.args in
    store-add a.set a.store.now a.pixels.now (sym c.in_ok-look_says.ensures)
    (discards-new a.set (found_in a.set a.store.now a.pixels.now) (sym c.found_in.ensures ∙ c.in_default.is)) c.append-in_default.ensures
