-- Each byte of the word is the table's.
use mathlib.Core.Path.{◌∙◌}
use Rattle.words.specs.Inner.{byte_in}
use Rattle.nativeflip.specs.Flipping.{reversed}
use Rattle.nativeflip.proofs.Words.{of-bytes, reversed-small}
use Rattle.nativeflip.proofs.turns.reverse_word.Goals as goal

pub returns : goal.returns
returns c =
    let w = c.args.w in
    of-bytes (λ m. reversed (byte_in w m)) c.word.result (λ j. reversed-small (byte_in w j))
    (c.word.ensures
    ∙ rw (
      c.reversed_byte-a.ensures.0,
      c.reversed_byte-b.ensures.0,
      c.reversed_byte-c.ensures.0,
      c.reversed_byte-d.ensures.0,
      c.reversed_byte-e.ensures.0,
      c.reversed_byte-f.ensures.0,
      c.reversed_byte-g.ensures.0,
      c.reversed_byte-h.ensures.0,
    ))
