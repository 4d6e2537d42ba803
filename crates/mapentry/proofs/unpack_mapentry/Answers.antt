-- What has no entries is refused; each other arm is as its mode's reading.
use mathlib.Core.Path.{◌≡◌}
use native.Mathlib.Omega.{arith}
use borrow.Author.Tests.{lt-ltb}
use Rattle.mode.specs.Table.{pce-sprite}
use Rattle.mapentry.specs.Entry.{read_says}
use Rattle.words.proofs.Refusing.{passed_on}
use Rattle.mapentry.proofs.unpack_mapentry.Goals as goal

pub returns-in_err-try_from : goal.returns-in_err-try_from
unfolding read_says
returns-in_err-try_from c =
    rw (passed_on c.from_residual.result c.in_err-try_from.field-0.0 c.from_residual.ensures.1, c.in_err-try_from.ensures.0, lt-ltb 15 _ c.in_err-try_from.ensures.1)

pub returns-in-PCE_SPRITE : goal.returns-in-PCE_SPRITE
unfolding read_says
returns-in-PCE_SPRITE c =
    let is : c.args.mode ≡ pce-sprite = omega arith in
    rw is
