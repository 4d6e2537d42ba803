-- The tiles from tile held on are put, up to tile k.
use Prim.Native.Nat.{◌-◌, ◌+◌, ◌*◌}
use lib.ListN.{get_or}
use Rattle.words.proofs.Filling.{Filled}
use Rattle.tile.specs.Tile.{packed}
use Rattle.picture.specs.Inner.{tile_at}
use Rattle.picture.proofs.put_tiles.Given as goal

abbrev pub invariant-loop-k : goal.invariant-loop-k
invariant-loop-k l =
    let z = l.settings in
    Filled (λ k. packed z.mode z.depth 8 8 (tile_at z l.pixels (get_or l.store.from (l.store.held + k) 0))) l.initial.tiles (l.store.held * (z.depth * 8)) (l.k - l.store.held) l.tiles
