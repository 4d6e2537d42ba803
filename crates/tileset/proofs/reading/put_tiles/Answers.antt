use mathlib.Core.Path.{◌≡◌, sym, ap, ◌∙◌}
use mathlib.Core.List.{List}
use Prim.Native.Nat.{ℕ, ◌+◌, ◌*◌, ◌≤◌}
use native.Mathlib.Omega.{arith}
use lib.Seq.{sets}
use lib.ListN.{length, take, drop}
use Rattle.words.proofs.Filling.{filled-front, filled_next}
use Rattle.tile.specs.Inner.{byte_count, unpacked_in}
use Rattle.tile.specs.Tile.{unpacked}
use Rattle.tile.proofs.Native.{Native, fitting}
use Rattle.tileset.specs.Reading.{tile_size, read_count, read_pixels}
use Rattle.tileset.proofs.Sizes.{IsSet, set-of}
use Rattle.tileset.proofs.WritingLaws.{item-space}
use Rattle.tileset.proofs.ReadingLaws.{unpacks-at, unpacks-tile, tile-length}
use Rattle.tileset.proofs.Straight.{tile-straight, straight-inside}
use Rattle.tileset.proofs.reading.put_tiles.Goals as goal
use Rattle.tileset.proofs.reading.put_tiles.Goals.{After-byte_count-size, In-loop-i, Start}

sound : (c : Start) → IsSet c.args.shape.now.mode c.args.shape.now.depth c.args.shape.now.width c.args.shape.now.height
sound c = set-of _ _ _ _ c.args.shape.now.allowed

tiled : (c : Start) → Native c.args.shape.now.mode c.args.shape.now.depth c.args.shape.now.width c.args.shape.now.height
tiled c = record { mode = (sound c).mode; depth = (sound c).depth; size = c.requires.1 }

bytes-are : (c : After-byte_count-size) → c.byte_count-size.result ≡ (tile_size c.args.shape.now.depth c.args.shape.now.width c.args.shape.now.height)
bytes-are c =
    let sound : IsSet c.args.shape.now.mode c.args.shape.now.depth c.args.shape.now.width c.args.shape.now.height =
    set-of _ _ _ _ c.args.shape.now.allowed in
    let tiled : Native c.args.shape.now.mode c.args.shape.now.depth c.args.shape.now.width c.args.shape.now.height =
    record { mode = sound.mode; depth = sound.depth; size = c.requires.1 } in
    c.byte_count-size.ensures ∙ ap byte_count c.packing_of-p.ensures ∙ (fitting (tiled)).bytes

bytes-at : (c : In-loop-i) → c.loop-i.i * c.byte_count-size.result ≡ c.loop-i.i * (tile_size c.args.shape.now.depth c.args.shape.now.width c.args.shape.now.height)
bytes-at c =
    let sound : IsSet c.args.shape.now.mode c.args.shape.now.depth c.args.shape.now.width c.args.shape.now.height =
    set-of _ _ _ _ c.args.shape.now.allowed in
    let tiled : Native c.args.shape.now.mode c.args.shape.now.depth c.args.shape.now.width c.args.shape.now.height =
    record { mode = sound.mode; depth = sound.depth; size = c.requires.1 } in
    let bytes-are : c.byte_count-size.result ≡ (tile_size c.args.shape.now.depth c.args.shape.now.width c.args.shape.now.height) =
    c.byte_count-size.ensures ∙ ap byte_count c.packing_of-p.ensures ∙ (fitting (tiled)).bytes in
    ap (λ (k : ℕ). c.loop-i.i * k) (bytes-are)

from : (c : In-loop-i) → c.loop-i.i * (tile_size c.args.shape.now.depth c.args.shape.now.width c.args.shape.now.height) + (tile_size c.args.shape.now.depth c.args.shape.now.width c.args.shape.now.height) ≤ length (c.args.bytes.now)
from c =
    let sound : IsSet c.args.shape.now.mode c.args.shape.now.depth c.args.shape.now.width c.args.shape.now.height =
    set-of _ _ _ _ c.args.shape.now.allowed in
    let tiled : Native c.args.shape.now.mode c.args.shape.now.depth c.args.shape.now.width c.args.shape.now.height =
    record { mode = sound.mode; depth = sound.depth; size = c.requires.1 } in
    straight-inside (tiled) (length (c.args.bytes.now)) c.loop-i.i (omega (arith, c.requires.0.is, c.loop-i-test.true))

here : (c : In-loop-i) → c.loop-i.i * (c.args.shape.now.width * c.args.shape.now.height) + (c.args.shape.now.width * c.args.shape.now.height) ≤ length (c.args.store.now)
here c = item-space c.args.count _ _ c.loop-i.i c.requires.0.space c.loop-i-test.true

pub byte_count-size-requires : goal.byte_count-size-requires
byte_count-size-requires c = rw c.packing_of-p.ensures (fitting (tiled (goal.at.byte_count-size-requires c).Start)).sound

pub overflow_mul-i : goal.overflow_mul-i
overflow_mul-i c = omega (arith, from c, bytes-at c)

pub put_pixels-requires : goal.put_pixels-requires
put_pixels-requires c =
    unpacks-at (tiled (goal.at.put_pixels-requires c).Start) c.packing_of-p.ensures _ _ _ _ (omega (arith, from (goal.at.put_pixels-requires c).In-loop-i, bytes-at (goal.at.put_pixels-requires c).In-loop-i))
    (rw c.area-n.ensures.0 (omega (arith, here (goal.at.put_pixels-requires c).In-loop-i, c.loop-i.invariant.long)))

pub loop-i-preserved : goal.loop-i-preserved
loop-i-preserved c =
    let lp = c.loop-i in
    let tile = unpacks-tile (tiled (goal.at.loop-i-preserved c).Start) c.packing_of-p.ensures (c.args.bytes.now) (lp.i * c.byte_count-size.result) in
    filled_next (c.args.shape.now.width * c.args.shape.now.height) (tile-length _ _ _ _ (c.args.bytes.now)) lp.invariant
    (c.put_pixels.ensures
    ∙ ap (λ (n : ℕ). sets lp.store (lp.i * n) (unpacked_in c.packing_of-p.result (take (byte_count c.packing_of-p.result) (drop (lp.i * c.byte_count-size.result) c.args.bytes.now)))) c.area-n.ensures.0
    ∙ ap (λ (l : List ℕ). sets lp.store (lp.i * (c.args.shape.now.width * c.args.shape.now.height)) l) (tile ∙ ap (λ (k : ℕ). unpacked c.args.shape.now.mode c.args.shape.now.depth c.args.shape.now.width c.args.shape.now.height (take (tile_size c.args.shape.now.depth c.args.shape.now.width c.args.shape.now.height) (drop k (c.args.bytes.now)))) (bytes-at (goal.at.loop-i-preserved c).In-loop-i) ∙ sym (tile-straight (tiled (goal.at.loop-i-preserved c).Start) (c.args.bytes.now) lp.i)))

pub returns : goal.returns
unfolding read_pixels
returns c =
    let a = c.args.shape.now in
    let count = read_count a.mode a.depth a.width a.height (length (c.args.bytes.now)) in
    filled-front (c.args.shape.now.width * c.args.shape.now.height) count (tile-length _ _ _ _ (c.args.bytes.now)) c.loop-i.invariant (omega (arith, c.requires.0.is)) (rw (← c.requires.0.is) c.requires.0.space)
