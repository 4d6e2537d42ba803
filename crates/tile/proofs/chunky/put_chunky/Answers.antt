use Prim.Native.Nat.{◌/◌}
use native.Mathlib.Omega.{arith}
use Rattle.tile.specs.Layout.{element}
use Rattle.tile.specs.Packings.{layout_in}
use Rattle.tile.proofs.Filling.{word_next, tile-stored}
use Rattle.tile.proofs.Packed.{word-law, Chunky, chunky-of}
use Rattle.tile.proofs.chunky.put_chunky.Goals as goal
use Rattle.tile.proofs.chunky.put_chunky.Goals.{Start}

-- what a tile of this packing has
size : (s : Start) → Chunky s.args.p
size s = chunky-of s.args.p s.requires.0

pub loop-b-preserved : goal.loop-b-preserved
loop-b-preserved c =
    let l = c.loop-b in
    let n = c.byte_count-n in
    let ws = c.words_of-ws in
    let a = c.args in
    let w = c.chunky_word in
    let is = word-law (size (goal.at.loop-b-preserved c).Start).fits a.tile.now ws.result l.b w.result ws.ensures (omega (arith, n.ensures)) w.ensures in
    word_next (element (layout_in a.p).bytes a.tile.now) w.result l.invariant c.put_bytes.ensures is

pub returns : goal.returns
returns c =
    let n = c.byte_count-n in
    let a = c.args in
    tile-stored (layout_in a.p).bytes a.tile.now (n.result / 8) c.loop-b.invariant (omega arith) (omega (arith, n.ensures, (size (goal.at.returns c).Start).bytes))
