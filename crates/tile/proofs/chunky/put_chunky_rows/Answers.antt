use mathlib.Core.Path.{subst}
use Prim.Native.Nat.{ℕ, ◌/◌}
use native.Mathlib.Omega.{arith}
use Rattle.tile.specs.Layout.{element}
use Rattle.tile.specs.Packings.{layout_in}
use Rattle.tile.specs.Inner.{WordsOf}
use Rattle.tile.proofs.Filling.{word_next, tile-stored}
use Rattle.tile.proofs.Packed.{row-law, Chunky, chunky-of}
use Rattle.tile.proofs.chunky.put_chunky_rows.Goals as goal
use Rattle.tile.proofs.chunky.put_chunky_rows.Goals.{Start}

-- what a tile of this packing has
size : (s : Start) → Chunky s.args.p
size s = chunky-of s.args.p s.requires.0

pub loop-r-preserved : goal.loop-r-preserved
loop-r-preserved c =
    let l = c.loop-r in
    let ws = c.words_of-ws in
    let n = c.byte_count in
    let a = c.args in
    let w = c.chunky_row in
    let read = subst (λ (k : ℕ). WordsOf a.bytes.now (k / 8) ws.result) n.ensures ws.ensures in
    let is = row-law (size (goal.at.loop-r-preserved c).Start).fits a.bytes.now ws.result l.r w.result read (omega (arith, (size (goal.at.loop-r-preserved c).Start).pixels)) w.ensures in
    word_next (element (layout_in a.p).pixels a.bytes.now) w.result l.invariant c.put_bytes.ensures is

pub returns : goal.returns
returns c =
    let a = c.args in
    tile-stored (layout_in a.p).pixels a.bytes.now 8 c.loop-r.invariant (omega arith) (omega (arith, (size (goal.at.returns c).Start).pixels))
