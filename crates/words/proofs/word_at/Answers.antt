-- Eight bytes are read, and put together from either end.
use Rattle.words.proofs.Eights.{word_on, word_back}
use Rattle.words.proofs.word_at.Goals as goal

pub returns-then-back : goal.returns-then-back
returns-then-back c =
    word_back c.args.s.now _ _ _ _ _ _ _ _ _ _
    c.from-a.ensures c.from-b.ensures c.from-c.ensures c.from-d.ensures c.from-e.ensures
    c.from-f.ensures c.from-g.ensures c.from-h.ensures
    _ c.if-back.true c.word.ensures

pub returns : goal.returns
returns c =
    word_on c.args.s.now _ _ _ _ _ _ _ _ _ _
    c.from-a.ensures c.from-b.ensures c.from-c.ensures c.from-d.ensures c.from-e.ensures
    c.from-f.ensures c.from-g.ensures c.from-h.ensures
    _ c.if-back.false c.word-2.ensures
