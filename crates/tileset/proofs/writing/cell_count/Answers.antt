-- The set's grid, and few tiles.
use native.Mathlib.Omega.{arith}
use Rattle.tileset.proofs.Sizes.{grid-set}
use Rattle.tileset.proofs.Says.{held-set}
use Rattle.tileset.proofs.WritingLaws.{held-few, single-cells}
use Rattle.tileset.proofs.writing.cell_count.Goals as goal

pub returns-then-set-eq8-2 : goal.returns-then-set-eq8-2
returns-then-set-eq8-2 c = (single-cells _ _ _ _ c.if-set-eq8.true c.if-set-eq8-2.true, omega (arith, held-few c.args.held.now.set _ c.args.held.now.held))

pub of-requires : goal.of-requires
of-requires c = grid-set (held-set c.args.held.now.set _ c.args.held.now.held) c.requires

pub padded_cells-requires : goal.padded_cells-requires
padded_cells-requires c = held-few c.args.held.now.set _ c.args.held.now.held
