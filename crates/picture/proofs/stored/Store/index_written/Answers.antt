use mathlib.Core.Path.{ap, ◌∙◌}
use Prim.Native.Nat.{◌*◌}
use lib.ListN.{take, drop}
use Rattle.tile.specs.Tile.{unpacked}
use Rattle.picture.proofs.Tiles.{index_none, index-finds, index-more}
use Rattle.picture.proofs.stored.Store.index_written.Goals as goal

pub loop-k-init : goal.loop-k-init
loop-k-init c = index_none c.requires

pub find-found-requires : goal.find-found-requires
find-found-requires c = index-finds c.requires c.loop-k.invariant c.loop-k-test.true c.key-q.ensures

pub loop-k-preserved : goal.loop-k-preserved
loop-k-preserved c =
    let s = c.args.source.now in
    let size = s.settings.depth * 8 in
    index-more c.requires c.loop-k.invariant c.loop-k-test.true c.key-q.ensures
    (c.read_tile.ensures ∙ ap (λ m. unpacked m s.settings.depth 8 8 (take size (drop (c.loop-k.k * size) s.tiles.now))) c.at.ensures) c.find-found.ensures c.enter.ensures
