-- The word at a place, and the entry that it holds.
use Rattle.mapentry.proofs.Laws.{entry-few}
use Rattle.mapentry.proofs.get_entry.Goals as goal

pub get_word-word-requires : goal.get_word-word-requires
get_word-word-requires c =
    let few = entry-few c.args.m in
    rw c.mapentry_size.ensures (c.requires.1, c.requires.0, few)
