use mathlib.Core.Path.{ap, ◌∙◌}
use mathlib.Core.List.{List}
use Prim.Native.Nat.{ℕ, ◌%◌, ◌^◌}
use native.Mathlib.Omega.{arith}
use lib.ListN.{length}
use lib.Seq.{sets}
use Rattle.words.proofs.Filling.{filled-one, filled-all}
use Rattle.tileset.proofs.Stores.{each-cut}
use Rattle.tileset.proofs.finding.put_cut.Goals as goal

pub loop-i-preserved : goal.loop-i-preserved
loop-i-preserved c =
    let depth = c.args.depth in
    filled-one c.loop-i.invariant (c.low.ensures ∙ ap (λ (k : ℕ). k % 2 ^ depth) c.from.ensures)

pub returns : goal.returns
returns c =
    let a = c.args in
    filled-all (length a.pixels.now) c.loop-i.invariant (omega arith)
    ∙ ap (λ (l : List ℕ). sets a.out.now a.at l) (each-cut a.depth a.pixels.now)
