-- The values, each moved up to its place, are the word that the fields make.
use mathlib.Core.Path.{◌≡◌}
use Prim.Native.Nat.{◌+◌, ◌<◌}
use native.Mathlib.Omega.{arith}
use lib.Pow.{shr_le}
use Rattle.mapentry.specs.Entry.{entry_word}
use Rattle.mapentry.proofs.Laws.{bit-byte, fitting, tile-small, palette-small, word_small}
use Rattle.mapentry.proofs.Links.{summed-right}
use Rattle.mapentry.proofs.entry_word.Goals as goal
use Rattle.mapentry.proofs.entry_word.Goals.{After-up-priority}

-- the sum is the entry's word, and so below 65,536 at every step
total : (c : After-up-priority) → let a = c.args in
    c.low-low.result + c.up-high.result + c.up-palette.result + c.up-h.result
    + c.up-v.result + c.up-priority.result ≡ entry_word a.m a.e
total c =
    rw (c.low-low.ensures, c.up-high.ensures, c.down.ensures, c.up-palette.ensures)
    (rw (c.up-h.ensures, c.from.ensures, c.up-v.ensures, c.from-2.ensures, c.up-priority.ensures, c.from-3.ensures)
    (rw (bit-byte c.args.e.flip_h, bit-byte c.args.e.flip_v, bit-byte c.args.e.priority, c.places_of-p.ensures.places)
    (summed-right c.args.m c.requires.mode c.args.e (fitting c.args.m c.args.e c.requires.fits))))

word_fits : (c : After-up-priority) → let a = c.args in entry_word a.m a.e < 65536
word_fits c = word_small c.args.m c.requires.mode c.args.e

pub up-high-requires : goal.up-high-requires
up-high-requires c =
    let near = c.places_of-p.ensures.near in
    (omega (arith, c.down.ensures, shr_le c.args.e.tile c.places_of-p.result.low, tile-small _ _ c.requires), near.high)

pub up-palette-requires : goal.up-palette-requires
up-palette-requires c =
    let near = c.places_of-p.ensures.near in
    (omega (arith, palette-small _ _ c.requires), near.palette)

pub overflow_add-result : goal.overflow_add-result
overflow_add-result c = omega (arith, total c, word_fits c)

pub overflow_add-result-2 : goal.overflow_add-result-2
overflow_add-result-2 c = omega (arith, total c, word_fits c)

pub overflow_add-result-3 : goal.overflow_add-result-3
overflow_add-result-3 c = omega (arith, total c, word_fits c)

pub overflow_add-result-4 : goal.overflow_add-result-4
overflow_add-result-4 c = omega (arith, total c, word_fits c)

pub overflow_add-result-5 : goal.overflow_add-result-5
overflow_add-result-5 c = omega (arith, total c, word_fits c)

pub returns : goal.returns
returns c = (total c, omega (arith, total c, word_fits c))
