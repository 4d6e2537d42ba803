use mathlib.Core.Path.{◌≡◌, ap, ◌∙◌}
use Prim.Native.Nat.{ℕ, ◌+◌, ◌*◌}
use native.Mathlib.Omega.{arith}
use Rattle.words.specs.Inner.{word_at}
use Rattle.flip.specs.Inner.{eight_from}
use Rattle.flip.proofs.Eights.{eight-differs, eight-agrees}
use Rattle.flip.proofs.same_row.Goals as goal
use Rattle.flip.proofs.same_row.Goals.{After-word_at}

stored : (c : After-word_at) → c.word_at-stored.result ≡ word_at c.args.across c.args.store.now (c.args.from + eight_from c.args.across c.args.width (c.loop-k.k * 8))
stored c = c.word_at-stored.ensures ∙ ap (λ (e : ℕ). word_at c.args.across c.args.store.now (c.args.from + e)) c.eight_from.ensures.0

pub returns-then-stored-word_at : goal.returns-then-stored-word_at
returns-then-stored-word_at c =
    let z = c.args in
    eight-differs z.across z.store.now z.tile.now z.from z.i z.width (c.loop-k.k * 8) (omega arith) _ _
    (stored (goal.at.returns-then-stored-word_at c).After-word_at) c.word_at.ensures c.if-stored-word_at.true

pub loop-k-preserved : goal.loop-k-preserved
loop-k-preserved c =
    let z = c.args in
    λ x p. eight-agrees z.across z.store.now z.tile.now z.from z.i z.width (c.loop-k.k * 8) (omega arith) _ _
    (stored (goal.at.loop-k-preserved c).After-word_at) c.word_at.ensures
    (λ k. (c.type_inv.store k).fits) (λ k. (c.type_inv.tile k).fits) c.if-stored-word_at.false c.loop-k.invariant x (omega arith)

pub returns : goal.returns
returns c = λ x p. c.loop-k.invariant x (omega (arith, c.requires.eights, c.loop-k-test.false, c.loop-k.auto))
