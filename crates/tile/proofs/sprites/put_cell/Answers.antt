use native.Mathlib.Omega.{arith}
use Rattle.tile.specs.Inner.{cell_byte}
use Rattle.tile.proofs.Filling.{word_next, words-stored}
use Rattle.tile.proofs.Packed.{cell-word-is}
use Rattle.tile.proofs.sprites.put_cell.Goals as goal

pub loop-b-preserved : goal.loop-b-preserved
loop-b-preserved c =
    let a = c.args in
    let l = c.loop-b in
    let ws = c.cell_words-ws in
    let w = c.cell_word in
    let is = cell-word-is a.tile.now ws.result a.from a.width l.b w.result ws.ensures (omega arith) w.ensures in
    word_next (cell_byte a.tile.now a.from a.width) w.result l.invariant c.put_bytes.ensures is

pub returns : goal.returns
returns c =
    let a = c.args in
    words-stored (cell_byte a.tile.now a.from a.width) 16 c.loop-b.invariant (omega arith)
