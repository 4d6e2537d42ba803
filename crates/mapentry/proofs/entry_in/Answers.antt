-- Each value at its place in the word.
use mathlib.Core.Path.{ap, ◌∙◌}
use Rattle.mapentry.specs.Inner.{read_at}
use Rattle.mapentry.specs.declared.Places.{Places}
use Rattle.mapentry.proofs.Links.{read_right}
use Rattle.mapentry.proofs.entry_in.Goals as goal

-- the tile index stays below 2 ^ 32
pub returns : goal.returns
returns c =
    rw (c.low.ensures, c.up.ensures, c.low-apart.ensures, c.down.ensures)
    (rw (c.low-2.ensures, c.down-2.ensures, c.low-3.ensures, c.down-3.ensures)
    (rw (c.low-4.ensures, c.down-4.ensures, c.low-5.ensures, c.down-5.ensures)
    (ap (λ (p : Places). read_at p c.args.word) c.places_of-p.ensures.places ∙ read_right c.args.m c.places_of-p.ensures.mode c.args.word c.requires)))
