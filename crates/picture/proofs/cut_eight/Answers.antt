use mathlib.Core.Path.{ap, ◌∙◌}
use Prim.Native.Nat.{ℕ, ◌+◌, ◌%◌, ◌^◌}
use lib.ListN.{get_or}
use Rattle.words.proofs.Filling.{filled-one}
use Rattle.picture.proofs.cut_eight.Goals as goal

pub loop-x-preserved : goal.loop-x-preserved
loop-x-preserved c =
    let a = c.args in
    filled-one {g = λ x. get_or a.pixels.now (a.from + x) 0 % 2 ^ a.depth} c.loop-x.invariant (c.low.ensures ∙ ap (λ (k : ℕ). k % 2 ^ a.depth) c.from.ensures)
