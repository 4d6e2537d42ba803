-- The word of the entry, put at the place.
use Rattle.mapentry.proofs.Laws.{entry-few, some_byte}
use Rattle.mapentry.proofs.put_entry.Goals as goal

pub put_word-requires : goal.put_word-requires
put_word-requires c =
    let m = c.args.m in
    let e = c.requires.0 in
    rw c.mapentry_size.ensures (c.requires.1, some_byte m e.mode e.map, entry-few m)
