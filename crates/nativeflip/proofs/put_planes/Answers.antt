-- By the table where h is on, and without it where it is not.
use mathlib.Core.Path.{sym, ap, ◌∙◌}
use mathlib.Core.Bool.{Bool}
use lib.ListN.{length}
use lib.Seq.{sets}
use Rattle.tile.specs.Layout.{spread}
use Rattle.nativeflip.specs.Inner.{planes_turned}
use Rattle.nativeflip.proofs.put_planes.Goals as goal

pub returns-then-f : goal.returns-then-f
returns-then-f c =
    let a = c.args in
    c.put_mirrored.ensures
    ∙ ap (λ (x : Bool). sets a.out.now 0 (spread (planes_turned a.group x a.f.v (length a.bytes.now)) a.bytes.now)) (sym c.if-f.true)

pub returns : goal.returns
returns c =
    let a = c.args in
    c.put_rows.ensures
    ∙ ap (λ (x : Bool). sets a.out.now 0 (spread (planes_turned a.group x a.f.v (length a.bytes.now)) a.bytes.now)) (sym c.if-f.false)
