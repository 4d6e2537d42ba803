-- Each of the four flips has its turns.
use mathlib.Core.Path.{◌≡◌, ap, ◌∙◌}
use mathlib.Core.Bool.{Bool, true, false}
use Prim.Native.Nat.{ℕ, ◌+◌, ◌*◌, ◌<◌, ◌≤◌}
use native.Mathlib.Omega.{arith}
use lib.ListN.{length, get_or}
use Rattle.nativeflip.specs.Inner.{word_place}
use Rattle.nativeflip.proofs.Words.{word-inside, as-flipped, word_on, word-down, word-both, word-across}
use Rattle.nativeflip.proofs.turns.turned_word.Goals as goal
use Rattle.nativeflip.proofs.turns.turned_word.Goals.{After-word_at-w, After-word_from}

-- the word is another of the tile
inside : (c : After-word_from) → c.word_from.result * 8 + 8 ≤ length c.args.bytes.now
inside c = omega (arith, c.word_from.ensures, word-inside c.requires.0 c.args.b c.args.f.v c.requires.1)

pub word_from-requires : goal.word_from-requires
word_from-requires c = (c.requires.0.row, omega (arith, c.requires.1, c.requires.0.few))

pub overflow_mul-word_from : goal.overflow_mul-word_from
overflow_mul-word_from c = omega (arith, inside c, c.requires.0.few)

pub word_at-w-requires : goal.word_at-w-requires
word_at-w-requires c = inside c

pub turn_fields-requires : goal.turn_fields-requires
turn_fields-requires c = c.requires.0.pixels c.if-f.true

pub turn_fields-requires-then-f : goal.turn_fields-requires-then-f
turn_fields-requires-then-f c = c.requires.0.pixels c.if-f.true

small : (c : After-word_at-w) → (i : ℕ) → get_or c.args.bytes.now i 0 < 256
small c i = (c.type_inv.bytes i).fits

here : (c : After-word_at-w) → (d : Bool) → c.args.f.v ≡ d → c.word_from.result ≡ word_place c.args.row d c.args.b
here c d e = c.word_from.ensures ∙ ap (λ (x : Bool). word_place c.args.row x c.args.b) e

pub returns-then-f-2 : goal.returns-then-f-2
returns-then-f-2 c =
    let h = c.if-f.true in
    let v = c.if-f-2.true in
    as-flipped (c.args.row) c.args.bytes.now (c.args.b) c.turn_fields.result true true h v
    (word-both (c.args.row) (c.args.b) c.requires.0.row c.args.bytes.now (small (goal.at.returns-then-f-2 c).After-word_at-w) c.word_at-w.ensures c.turn_rows-back.result c.turn_fields.result
    (here (goal.at.returns-then-f-2 c).After-word_at-w true v) c.turn_rows-back.ensures c.turn_fields.ensures)

pub returns-then-f : goal.returns-then-f
returns-then-f c =
    let h = c.if-f.true in
    let v = c.if-f-2.false in
    as-flipped (c.args.row) c.args.bytes.now (c.args.b) c.turn_fields-then-f.result true false h v
    (word-across (c.args.row) (c.args.b) c.requires.0.row c.args.bytes.now (small (goal.at.returns-then-f c).After-word_at-w) c.word_at-w.ensures c.turn_rows-back.result c.turn_rows.result
    c.turn_fields-then-f.result (here (goal.at.returns-then-f c).After-word_at-w false v) c.turn_rows-back.ensures c.turn_rows.ensures c.turn_fields-then-f.ensures)

pub returns-then-f-3 : goal.returns-then-f-3
returns-then-f-3 c =
    let h = c.if-f.false in
    let v = c.if-f-3.true in
    as-flipped (c.args.row) c.args.bytes.now (c.args.b) c.turn_rows-then-f-3.result false true h v
    (word-down (c.args.row) (c.args.b) c.requires.0.row c.args.bytes.now (small (goal.at.returns-then-f-3 c).After-word_at-w) c.word_at-w.ensures c.turn_rows-then-f-3.result (here (goal.at.returns-then-f-3 c).After-word_at-w true v) c.turn_rows-then-f-3.ensures)

pub returns : goal.returns
returns c =
    let h = c.if-f.false in
    let v = c.if-f-3.false in
    as-flipped (c.args.row) c.args.bytes.now (c.args.b) c.word_at-w.result false false h v
    (word_on (c.args.row) (c.args.b) c.requires.0.row c.args.bytes.now (small (goal.at.returns c).After-word_at-w) c.word_at-w.ensures (here (goal.at.returns c).After-word_at-w false v))
