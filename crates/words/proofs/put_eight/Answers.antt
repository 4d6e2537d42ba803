-- The bytes of their word are the eight.
use mathlib.Core.Path.{ap, ◌∙◌}
use mathlib.Core.List.{List}
use Prim.Native.Nat.{ℕ}
use lib.Seq.{sets}
use Rattle.words.specs.Inner.{bytes_in}
use Rattle.words.proofs.Eights.{word-eight}
use Rattle.words.proofs.put_eight.Goals as goal

pub returns : goal.returns
returns c =
    let a = c.args in
    c.put_bytes.ensures
    ∙ ap (λ (x : ℕ). sets a.out.now a.at (bytes_in x)) c.word_at.ensures
    ∙ ap (λ (l : List ℕ). sets a.out.now a.at l) (word-eight a.s.now (λ i. (c.type_inv.s i).fits) a.back a.from)
