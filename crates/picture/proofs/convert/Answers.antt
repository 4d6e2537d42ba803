-- The checks, and what is converted where they passed.
use mathlib.Core.Path.{refl, sym, ◌∙◌}
use Rattle.words.proofs.Refusing.{answered-again, refusal-not-done}
use Rattle.picture.proofs.Refusing.{picture-again}
use Rattle.picture.proofs.Checks.{convert-asked}
use Rattle.picture.proofs.Whole.{no-tiles, can-go-on, whole-converts, refused-picture}
use Rattle.picture.proofs.convert.Goals as goal

pub returns-in_err-asked_says : goal.returns-in_err-asked_says
returns-in_err-asked_says c =
    let n = answered-again _ c.from_residual.result c.from_residual.ensures.1 in
    refused-picture _ (convert-asked _ _ _ _ _ (n ∙ c.in_err-asked_says.ensures) (λ z. refusal-not-done _ (sym n ∙ z))) (λ z. refusal-not-done _ (sym n ∙ z))
    (picture-again c.from_residual.result c.from_residual.ensures.0)

pub go_on-requires : goal.go_on-requires
go_on-requires c =
    let s = c.args in
    can-go-on s.settings s.pixels.now s.tiles.now s.map.now (sym c.in_ok-asked_says.ensures)

pub returns : goal.returns
returns c =
    whole-converts c.args.settings c.args.pixels.now c.args.tiles.now c.args.map.now (sym c.in_ok-asked_says.ensures)
    (no-tiles c.args.settings c.args.tiles.now) refl c.go_on.ensures
