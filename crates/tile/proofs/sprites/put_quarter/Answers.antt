use mathlib.Core.Path.{◌≡◌, ap, ap₂, ◌∙◌}
use mathlib.Core.Bool.{false}
use mathlib.Core.List.{List, [], ◌∷◌}
use Prim.Native.Nat.{ℕ, ◌+◌}
use Rattle.words.specs.Inner.{word_at}
use Rattle.words.proofs.Filling.{filled-one}
use Rattle.tile.specs.Inner.{word_from, quarter, planes_at}
use Rattle.tile.proofs.sprites.put_quarter.Goals as goal
use Rattle.tile.proofs.sprites.put_quarter.Goals.{After-word_at-d}

abbrev read : (c : After-word_at-d) → List ℕ
read c = c.word_at-a.result ∷ c.word_at-b.result ∷ c.word_at-c.result ∷ c.word_at-d.result ∷ []

read_is : (c : After-word_at-d) → read c ≡ planes_at c.args.bytes.now c.args.from
read_is c =
    let from = c.args.from in
    ap₂ (λ (a b : ℕ). a ∷ b ∷ c.word_at-c.result ∷ c.word_at-d.result ∷ []) c.word_at-a.ensures c.word_at-b.ensures
    ∙ ap₂ (λ (x y : ℕ). word_at false c.args.bytes.now from ∷ word_at false c.args.bytes.now (from + 32) ∷ x ∷ y ∷ []) c.word_at-c.ensures c.word_at-d.ensures

pub loop-k-preserved : goal.loop-k-preserved
loop-k-preserved c =
    filled-one c.loop-k.invariant (c.pixel_word.ensures ∙ ap (λ (ws : List ℕ). word_from quarter ws c.loop-k.k) (read_is (goal.at.loop-k-preserved c).After-word_at-d))
