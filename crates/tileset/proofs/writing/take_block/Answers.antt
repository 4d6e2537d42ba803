use mathlib.Core.Path.{refl, ◌∙◌}
use native.Mathlib.Omega.{arith}
use Rattle.words.proofs.Filling.{filled-whole, filled_next}
use Rattle.tileset.proofs.WritingLaws.{block-rows}
use Rattle.tileset.proofs.writing.take_block.Goals as goal
use Rattle.tileset.proofs.writing.take_block.Goals.{In-loop-y}

pub loop-y-preserved : goal.loop-y-preserved
loop-y-preserved c = filled_next 8 (λ k. refl) c.loop-y.invariant c.put_eight.ensures

pub returns : goal.returns
returns c =
    let a = c.args in
    filled-whole 8 8 (λ k. refl) c.loop-y.invariant (omega arith) c.requires.long ∙ block-rows a.store.now a.corner a.width
