use Rattle.tileset.proofs.Sizes.{set-of, grid-set}
use Rattle.tileset.proofs.shape.Shape.cells.Goals as goal

pub of-requires : goal.of-requires
of-requires c = rw c.number.ensures.0 (grid-set (set-of _ _ _ _ c.args.self.now.allowed) c.requires)
