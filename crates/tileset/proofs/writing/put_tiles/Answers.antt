use mathlib.Core.Path.{◌≡◌, ap, ◌∙◌}
use mathlib.Core.List.{List}
use Prim.Native.Nat.{ℕ, ◌*◌, ◌/◌, ◌≤◌, ◌+◌}
use native.Mathlib.Omega.{arith}
use lib.Seq.{sets}
use lib.ListN.{length}
use Rattle.words.specs.Answers.{overwrite}
use Rattle.words.proofs.Filling.{filled-front, filled_next}
use Rattle.tile.specs.Inner.{byte_count}
use Rattle.tile.proofs.Native.{Native, fitting}
use Rattle.tile.specs.Tile.{packing_of}
use Rattle.tileset.specs.Sets.{area}
use Rattle.tileset.specs.Writing.{sprite_bytes}
use Rattle.tileset.proofs.Sizes.{IsSet}
use Rattle.tileset.proofs.Says.{held-set}
use Rattle.tileset.proofs.WritingLaws.{packs-at, packs_bytes, held-inside, native-tile, tile-length, tiles-set, tiles-space, item-space}
use Rattle.tileset.proofs.writing.put_tiles.Goals as goal
use Rattle.tileset.proofs.writing.put_tiles.Goals.{After-byte_count-size, In-loop-i, Start}

sound : (c : Start) → IsSet c.args.held.now.set.mode c.args.held.now.set.depth c.args.held.now.set.width c.args.held.now.set.height
sound c = held-set c.args.held.now.set _ c.args.held.now.held

tiled : (c : Start) → Native c.args.held.now.set.mode c.args.held.now.set.depth c.args.held.now.set.width c.args.held.now.set.height
tiled c = native-tile c.args.held.now.set c.args.held.now.store.now c.args.held.now.held c.requires.1

size_is : (c : Start) → (k : ℕ) → length (sprite_bytes c.args.held.now.set c.args.held.now.store.now k) ≡ (area c.args.held.now.set * c.args.held.now.set.depth / 8)
size_is c = tile-length c.args.held.now.set c.args.held.now.store.now c.args.held.now.held c.requires.1

space : (c : Start) → c.args.held.now.set.stored * (area c.args.held.now.set * c.args.held.now.set.depth / 8) ≤ length c.args.out.now
space c = omega (arith, tiles-space c.args.held.now.set c.args.held.now.store.now c.args.held.now.held c.requires.1, c.requires.0)

bytes-are : (c : After-byte_count-size) → c.byte_count-size.result ≡ (area c.args.held.now.set * c.args.held.now.set.depth / 8)
bytes-are c =
    let tiled : Native c.args.held.now.set.mode c.args.held.now.set.depth c.args.held.now.set.width c.args.held.now.set.height =
    native-tile c.args.held.now.set c.args.held.now.store.now c.args.held.now.held c.requires.1 in
    c.byte_count-size.ensures ∙ ap byte_count (c.packing_of-p.ensures ∙ ap (λ (m : ℕ). packing_of m c.args.held.now.set.depth c.args.held.now.set.width c.args.held.now.set.height) c.at.ensures) ∙ (fitting (tiled)).bytes

from : (c : In-loop-i) → c.loop-i.i * area (c.args.held.now.set) + area (c.args.held.now.set) ≤ length (c.args.held.now.store.now)
from c = item-space c.args.held.now.set.stored _ _ c.loop-i.i (held-inside (c.args.held.now.set) _ c.args.held.now.held) c.loop-i-test.true

bytes-at : (c : In-loop-i) → c.loop-i.i * c.byte_count-size.result ≡ c.loop-i.i * (area c.args.held.now.set * c.args.held.now.set.depth / 8)
bytes-at c =
    let tiled : Native c.args.held.now.set.mode c.args.held.now.set.depth c.args.held.now.set.width c.args.held.now.set.height =
    native-tile c.args.held.now.set c.args.held.now.store.now c.args.held.now.held c.requires.1 in
    let bytes-are : c.byte_count-size.result ≡ (area c.args.held.now.set * c.args.held.now.set.depth / 8) =
    c.byte_count-size.ensures ∙ ap byte_count (c.packing_of-p.ensures ∙ ap (λ (m : ℕ). packing_of m c.args.held.now.set.depth c.args.held.now.set.width c.args.held.now.set.height) c.at.ensures) ∙ (fitting (tiled)).bytes in
    ap (λ (k : ℕ). c.loop-i.i * k) (bytes-are)

here : (c : In-loop-i) → c.loop-i.i * (area c.args.held.now.set * c.args.held.now.set.depth / 8) + (area c.args.held.now.set * c.args.held.now.set.depth / 8) ≤ length (c.args.out.now)
here c =
    let space : c.args.held.now.set.stored * (area c.args.held.now.set * c.args.held.now.set.depth / 8) ≤ length c.args.out.now =
    omega (arith, tiles-space c.args.held.now.set c.args.held.now.store.now c.args.held.now.held c.requires.1, c.requires.0) in
    item-space c.args.held.now.set.stored _ _ c.loop-i.i (space) c.loop-i-test.true

pub at-requires : goal.at-requires
at-requires c = (sound (goal.at.at-requires c).Start).mode

pub byte_count-size-requires : goal.byte_count-size-requires
byte_count-size-requires c = rw (c.packing_of-p.ensures ∙ ap (λ (m : ℕ). packing_of m c.args.held.now.set.depth c.args.held.now.set.width c.args.held.now.set.height) c.at.ensures) (fitting (tiled (goal.at.byte_count-size-requires c).Start)).sound

pub overflow_mul-i-in-loop-i : goal.overflow_mul-i-in-loop-i
overflow_mul-i-in-loop-i c = omega (arith, here (goal.at.overflow_mul-i-in-loop-i c).In-loop-i, bytes-at (goal.at.overflow_mul-i-in-loop-i c).In-loop-i)

pub put_tile-requires : goal.put_tile-requires
put_tile-requires c =
    packs-at (c.packing_of-p.ensures ∙ ap (λ (m : ℕ). packing_of m c.args.held.now.set.depth c.args.held.now.set.width c.args.held.now.set.height) c.at.ensures) (tiled (goal.at.put_tile-requires c).Start) _ _ _ _ (from (goal.at.put_tile-requires c).In-loop-i)
    (omega (arith, here (goal.at.put_tile-requires c).In-loop-i, bytes-at (goal.at.put_tile-requires c).In-loop-i, c.loop-i.invariant.long))

pub loop-i-preserved : goal.loop-i-preserved
loop-i-preserved c =
    let lp = c.loop-i in
    let bytes = packs_bytes (c.packing_of-p.ensures ∙ ap (λ (m : ℕ). packing_of m c.args.held.now.set.depth c.args.held.now.set.width c.args.held.now.set.height) c.at.ensures) (tiled (goal.at.loop-i-preserved c).Start) (c.args.held.now.store.now) (lp.i * area (c.args.held.now.set)) in
    filled_next (area c.args.held.now.set * c.args.held.now.set.depth / 8) (size_is (goal.at.loop-i-preserved c).Start) lp.invariant
    (c.put_tile.ensures
    ∙ ap (λ (l : List ℕ). sets lp.out (lp.i * c.byte_count-size.result) l) bytes
    ∙ ap (λ (k : ℕ). sets lp.out k (sprite_bytes (c.args.held.now.set) (c.args.held.now.store.now) lp.i)) (bytes-at (goal.at.loop-i-preserved c).In-loop-i))

pub returns : goal.returns
returns c =
    filled-front (area c.args.held.now.set * c.args.held.now.set.depth / 8) c.args.held.now.set.stored (size_is (goal.at.returns c).Start) c.loop-i.invariant (omega arith) (space (goal.at.returns c).Start)
    ∙ ap (overwrite (c.args.out.now)) (tiles-set (c.args.held.now.set) (c.args.held.now.store.now) c.args.held.now.held c.requires.1)
