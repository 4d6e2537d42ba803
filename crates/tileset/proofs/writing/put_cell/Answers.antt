-- A blank cell, or one gathered from the store.
use mathlib.Core.Path.{◌≡◌, refl, ap, ◌∙◌}
use mathlib.Core.List.{List}
use Prim.Native.Nat.{ℕ}
use native.Mathlib.Omega.{arith}
use lib.Seq.{sets}
use Rattle.tile.proofs.Native.{Native}
use Rattle.tile.specs.Tile.{packing_of}
use Rattle.tileset.specs.Writing.{block, cell_pixels}
use Rattle.tileset.proofs.WritingLaws.{native-cell, packs-at, held-few, corner-inside, cell-blank, cell-there, cell-packed}
use Rattle.tileset.proofs.Sizes.{IsSet, grid-set}
use Rattle.tileset.proofs.Says.{held-set}
use Rattle.tileset.proofs.writing.put_cell.Goals as goal
use Rattle.tileset.proofs.writing.put_cell.Goals.{After-packing_of-p, then-tile-set, else-tile-set}

sound : (c : After-packing_of-p) → let z = c.args.held.now.set in IsSet z.mode z.depth z.width z.height
sound c = held-set c.args.held.now.set _ c.args.held.now.held

cell-native : (c : After-packing_of-p) → Native c.args.held.now.set.mode c.args.held.now.set.depth 8 8
cell-native c = native-cell (sound c) c.requires.cells

packing_is : (c : After-packing_of-p) → c.packing_of-p.result ≡ packing_of c.args.held.now.set.mode c.args.held.now.set.depth 8 8
packing_is c = c.packing_of-p.ensures ∙ ap (λ (m : ℕ). packing_of m c.args.held.now.set.depth 8 8) c.at.ensures

pub at-requires : goal.at-requires
at-requires c = (held-set c.args.held.now.set _ c.args.held.now.held).mode

pub tile_of-tile-requires : goal.tile_of-tile-requires
tile_of-tile-requires c = grid-set (sound c) c.requires.cells

pub corner-requires : goal.corner-requires
corner-requires c =
    let i = sound (goal.at.corner-requires c).After-packing_of-p in
    record {
      grid = grid-set i c.requires.cells;
      across = i.across;
      down = i.down;
      small = i.small;
      few = omega (arith, held-few (c.args.held.now.set) _ c.args.held.now.held, c.if-tile-set.true);
      is = c.tile_of-tile.ensures;
    }

pub take_block-requires : goal.take_block-requires
take_block-requires c =
    record {
      inside = omega (arith, corner-inside c.args.held.now.set _ c.args.held.now.held c.requires.cells c.args.c.0 (omega (arith, c.tile_of-tile.ensures, c.if-tile-set.true)), c.corner.ensures);
      long = refl;
    }

pub put_tile-requires : goal.put_tile-requires
put_tile-requires c =
    let at = (goal.at.put_tile-requires c).After-packing_of-p in
    packs-at (packing_is at) (cell-native at) c.if-tile-set.cell _ 0 _ (omega (arith, c.if-tile-set.array_long)) (omega (arith, c.requires.space))

pub returns : goal.returns
returns c =
    let at = (goal.at.returns c).After-packing_of-p in
    let a = c.args in
    let filled : c.if-tile-set.cell ≡ cell_pixels a.held.now.set a.held.now.store.now a.c.0 =
    elim c.if-tile-set.branch [
      | then-tile-set w ↦ w.cell-is ∙ w.take_block.ensures ∙ ap (λ (k : ℕ). block a.held.now.store.now k a.held.now.set.width) w.corner.ensures ∙ cell-there a.held.now.set a.held.now.store.now a.c.0 (omega (arith, c.tile_of-tile.ensures, w.if-tile-set.true))
      | else-tile-set w ↦ w.cell-is ∙ cell-blank a.held.now.set a.held.now.store.now a.c.0 (omega (arith, c.tile_of-tile.ensures, w.if-tile-set.false))
    ] in
    c.put_tile.ensures ∙ ap (λ (l : List ℕ). sets a.out.now a.at l) (cell-packed (packing_is at) (cell-native at) c.if-tile-set.cell _ c.if-tile-set.array_long filled)
