use mathlib.Core.Path.{sym}
use mathlib.Core.Bool.{true}
use Prim.Native.Nat.{ℕ, ◌<◌}
use native.Mathlib.Omega.{arith}
use lib.ListN.{length, get_or}
use Rattle.words.proofs.Filling.{filled_none}
use Rattle.tile.specs.Layout.{element}
use Rattle.tile.proofs.Filling.{tile-stored}
use Rattle.nativeflip.specs.Inner.{planes_turned}
use Rattle.nativeflip.proofs.Words.{bits-word, word_next}
use Rattle.nativeflip.proofs.turns.put_reversed.Goals as goal

pub loop-b-init : goal.loop-b-init
loop-b-init c = filled_none _ _ _

pub overflow_mul-b : goal.overflow_mul-b
overflow_mul-b c = omega (arith, c.requires.1.whole, c.requires.1.has.few)

pub turned_word-requires : goal.turned_word-requires
turned_word-requires c = (c.requires.1.has, omega (arith, c.requires.1.whole))

pub put_bytes-requires : goal.put_bytes-requires
put_bytes-requires c = omega (arith, c.requires.1.whole, c.requires.1.space, c.loop-b.invariant.long)

pub loop-b-preserved : goal.loop-b-preserved
loop-b-preserved c =
    let r = c.reverse_word in
    let a = c.args in
    let f = element (planes_turned a.row true a.down (length a.bytes.now)) a.bytes.now in
    let small : (i : ℕ) → get_or a.bytes.now i 0 < 256 = λ i. (c.type_inv.bytes i).fits in
    let is = bits-word a.row c.loop-b.b a.bytes.now small a.down c.turned_word.result r.result c.turned_word.ensures r.ensures in
    word_next f r.result c.loop-b.invariant c.put_bytes.ensures is

pub returns : goal.returns
returns c =
    let a = c.args in
    tile-stored (planes_turned a.row true a.down (length a.bytes.now)) a.bytes.now a.n c.loop-b.invariant (omega arith) (sym c.requires.1.whole)
