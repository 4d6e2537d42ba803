-- What is above the low byte of the word.
use mathlib.Core.Path.{sym}
use Rattle.mapentry.proofs.Laws.{is-entry, without-tile}
use Rattle.mapentry.proofs.get_attribute.Goals as goal

pub entry_word-word-requires : goal.entry_word-word-requires
entry_word-word-requires c =
    let a = c.args in
    rw (c.without_tile.ensures, c.in_ok-m.ensures.mode) (without-tile a.mode a.e (is-entry a.mode a.e (sym c.in_ok-m.ensures.says)))
