use mathlib.Core.Path.{refl, ap, ◌∙◌}
use mathlib.Core.List.{List}
use Prim.Native.Nat.{ℕ}
use native.Mathlib.Omega.{arith}
use lib.ListN.{get_or}
use lib.Seq.{sets}
use Rattle.words.proofs.Filling.{filled_more}
use Rattle.tile.proofs.Filling.{words-stored}
use Rattle.tile.proofs.Packed.{all_of}
use Rattle.tile.proofs.chunky.put_plain.Goals as goal

pub loop-r-preserved : goal.loop-r-preserved
loop-r-preserved c = filled_more 8 (λ j. refl) c.loop-r.invariant c.put_eight.ensures

pub returns : goal.returns
returns c =
    let a = c.args in
    words-stored (λ k. get_or a.tile.now k 0) 8 c.loop-r.invariant (omega arith)
    ∙ ap (λ (l : List ℕ). sets a.out.now a.at l) (all_of a.tile.now 64 c.requires.0)
