use mathlib.Core.Path.{◌≡◌, sym, ap, ◌∙◌, subst}
use mathlib.Core.List.{List}
use Prim.Native.Nat.{ℕ, ◌<◌, ◌≤◌, ◌+◌, ◌-◌, ◌*◌}
use native.Mathlib.Nat.{add-mul}
use native.Mathlib.Omega.{arith}
use lib.ListN.{length, get_or}
use lib.Seq.{sets, take_all}
use Rattle.words.proofs.Filling.{Filled, filled_more}
use Rattle.words.proofs.Items.{item-inside}
use Rattle.tile.specs.Tile.{packed, packing_of}
use Rattle.tile.proofs.Native.{Native}
use Rattle.tileset.proofs.WritingLaws.{packs-at, packs_bytes}
use Rattle.picture.specs.Converting.{places}
use Rattle.picture.specs.Inner.{tile_at}
use Rattle.picture.proofs.Checks.{native-tile}
use Rattle.picture.proofs.Converted.{packed-size}
use Rattle.picture.proofs.Kept.{length-cut_tile}
use Rattle.picture.proofs.Taking.{has-tile}
use Rattle.picture.proofs.put_tiles.Goals as goal
use Rattle.picture.proofs.put_tiles.Goals.{After-packing_of-p, After-take_tile-tile, In-loop-k, Start}

packing : (c : After-packing_of-p) → c.packing_of-p.result ≡ packing_of c.args.settings.mode c.args.settings.depth 8 8
packing c = c.packing_of-p.ensures ∙ ap (λ m. packing_of m c.args.settings.depth 8 8) c.at.ensures

tiled : (c : Start) → Native c.args.settings.mode c.args.settings.depth 8 8
tiled c = let s = c.requires.stored.picture in native-tile s.mode s.map s.depth

-- tile k of those that are put
abbrev tile : (c : Start) → ℕ → List ℕ
tile c k = tile_at c.args.settings c.args.pixels.now (get_or c.args.store.now.from (c.args.store.now.held + k) 0)

size_is : (c : Start) → (k : ℕ) → length (packed c.args.settings.mode c.args.settings.depth 8 8 (tile c k)) ≡ (c.args.settings.depth * 8)
size_is c k = packed-size (tiled c) (tile c k)

space : (c : In-loop-k) → c.loop-k.k * (c.args.settings.depth * 8) + (c.args.settings.depth * 8) ≤ length c.args.tiles.now
space c = omega (arith, item-inside (c.args.settings.depth * 8) c.args.store.now.count c.loop-k.k c.loop-k-test.true, c.requires.space)

whole : (c : After-take_tile-tile) → length c.take_tile-tile.result ≡ 64
whole c = ap length c.take_tile-tile.ensures ∙ length-cut_tile _ 8 8 _ _ _

pub take_tile-tile-requires : goal.take_tile-tile-requires
take_tile-tile-requires c =
    let inside : c.from.result < places c.args.settings =
    subst (λ (n : ℕ). n < places c.args.settings) (sym c.from.ensures) (c.requires.stored.taken c.loop-k.k (omega arith) c.loop-k-test.true) in
    has-tile c.requires.stored.picture c.from.result inside

pub put_tile-requires : goal.put_tile-requires
put_tile-requires c =
    packs-at (packing (goal.at.put_tile-requires c).After-packing_of-p) (tiled (goal.at.put_tile-requires c).Start) _ _ _ _
    (omega (arith, whole (goal.at.put_tile-requires c).After-take_tile-tile))
    (omega (arith, space (goal.at.put_tile-requires c).In-loop-k, c.loop-k.invariant.long))

pub loop-k-preserved : goal.loop-k-preserved
loop-k-preserved c =
    let z = c.args.settings in
    let lp = c.loop-k in
    let held = c.args.store.now.held in
    let start = (goal.at.loop-k-preserved c).Start in
    let here : held + (lp.k - held) ≡ lp.k = omega arith in
    let next : lp.k - held + 1 ≡ lp.k + 1 - held = omega arith in
    let due : ℕ → List ℕ = λ k. packed z.mode z.depth 8 8 (tile start k) in
    let taken : packed z.mode z.depth 8 8 c.take_tile-tile.result ≡ due (lp.k - held) =
    ap (packed z.mode z.depth 8 8)
    (c.take_tile-tile.ensures ∙ ap (tile_at z c.args.pixels.now) (c.from.ensures ∙ ap (λ (n : ℕ). get_or c.args.store.now.from n 0) (sym here))) in
    let put =
    c.put_tile.ensures
    ∙ ap (sets lp.tiles (lp.k * (z.depth * 8)))
    (packs_bytes (packing (goal.at.loop-k-preserved c).After-packing_of-p) (tiled start) c.take_tile-tile.result 0
    ∙ ap (packed z.mode z.depth 8 8) (take_all 64 c.take_tile-tile.result (omega (arith, whole (goal.at.loop-k-preserved c).After-take_tile-tile)))
    ∙ taken)
    ∙ ap (λ (n : ℕ). sets lp.tiles n (due (lp.k - held))) (ap (λ (n : ℕ). n * (z.depth * 8)) (sym here) ∙ add-mul held (lp.k - held) (z.depth * 8)) in
    subst (λ (n : ℕ). Filled due c.args.tiles.now (held * (z.depth * 8)) n c.put_tile.new.out) next (filled_more (z.depth * 8) (size_is start) lp.invariant put)
