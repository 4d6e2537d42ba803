use mathlib.Core.Path.{refl, ap, ◌∙◌}
use mathlib.Core.List.{List}
use Prim.Native.Nat.{ℕ, ◌+◌, ◌*◌}
use native.Mathlib.Omega.{arith}
use lib.Seq.{sets}
use Rattle.words.specs.Inner.{eight}
use Rattle.words.proofs.Filling.{filled_more, filled-all}
use Rattle.flip.proofs.Group.{flipped-rows}
use Rattle.picture.proofs.put_flipped.Goals as goal

pub loop-y-preserved : goal.loop-y-preserved
loop-y-preserved c =
    let l = c.loop-y in
    let a = c.args in
    filled_more 8 (λ y. refl) l.invariant
    (c.put_eight.ensures
    ∙ ap (λ (k : ℕ). sets l.out (a.at + l.y * 8) (eight a.f.h a.tile.now (k * 8))) c.turned-row.ensures.0)

pub returns : goal.returns
returns c =
    let a = c.args in
    filled-all 8 c.loop-y.invariant (omega arith) ∙ ap (λ (l : List ℕ). sets a.out.now a.at l) (flipped-rows a.f 8 8 a.tile.now)
