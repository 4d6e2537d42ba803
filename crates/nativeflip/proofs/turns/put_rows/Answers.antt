use mathlib.Core.Path.{sym}
use mathlib.Core.Bool.{false}
use native.Mathlib.Omega.{arith}
use lib.ListN.{length}
use Rattle.words.proofs.Filling.{filled_none}
use Rattle.tile.specs.Layout.{element}
use Rattle.tile.proofs.Filling.{tile-stored}
use Rattle.nativeflip.specs.Inner.{planes_turned}
use Rattle.nativeflip.proofs.Words.{word_next}
use Rattle.nativeflip.proofs.turns.put_rows.Goals as goal

pub loop-b-init : goal.loop-b-init
loop-b-init c = filled_none _ _ _

pub overflow_mul-b : goal.overflow_mul-b
overflow_mul-b c = omega (arith, c.requires.whole, c.requires.has.few)

pub turned_word-requires : goal.turned_word-requires
turned_word-requires c = (c.requires.has, omega (arith, c.requires.whole))

pub put_bytes-requires : goal.put_bytes-requires
put_bytes-requires c = omega (arith, c.requires.whole, c.requires.space, c.loop-b.invariant.long)

pub loop-b-preserved : goal.loop-b-preserved
loop-b-preserved c =
    let l = c.loop-b in
    let a = c.args in
    let f = element (planes_turned a.row false a.down (length a.bytes.now)) a.bytes.now in
    word_next f c.turned_word.result l.invariant c.put_bytes.ensures c.turned_word.ensures

pub returns : goal.returns
returns c =
    let a = c.args in
    tile-stored (planes_turned a.row false a.down (length a.bytes.now)) a.bytes.now a.n c.loop-b.invariant (omega arith) (sym c.requires.whole)
