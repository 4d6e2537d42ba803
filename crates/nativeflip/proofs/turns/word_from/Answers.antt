-- A place counted from the other end differs in the row's bits.
use mathlib.Core.Path.{sym, ap, ◌∙◌}
use mathlib.Core.Bool.{Bool}
use Rattle.nativeflip.specs.Inner.{word_place}
use Rattle.nativeflip.proofs.Words.{each_back_lem, some-row}
use Rattle.nativeflip.proofs.turns.word_from.Goals as goal

pub overflow_sub-result : goal.overflow_sub-result
overflow_sub-result c = some-row c.args.row c.requires.0

pub returns-then-down : goal.returns-then-down
returns-then-down c =
    let a = c.args in
    each_back_lem a.row a.b c.requires.0 c.requires.1 ∙ ap (λ (d : Bool). word_place a.row d a.b) (sym c.if-down.true)
