-- What the set's search finds among one tile is how that matches.
use mathlib.Core.Path.{sym, ◌∙◌}
use native.Mathlib.Omega.{arith}
use Rattle.picture.proofs.Tiles.{matched-never, matched-under}
use Rattle.picture.proofs.stored.match_one.Goals as goal

pub returns-in_default : goal.returns-in_default
returns-in_default c =
    let a = c.args in
    matched-never a.flips a.other.now a.tile.now (omega (arith, c.find-arg-1.given)) (sym c.find.ensures ∙ c.in_default.is)

pub returns : goal.returns
returns c =
    let a = c.args in
    matched-under a.flips a.other.now a.tile.now (omega (arith, c.find-arg-1.given)) (sym c.find.ensures ∙ c.in-At.is)
