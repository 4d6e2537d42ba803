-- The tiles of whole strips of cells, and those of the strip after them.
use mathlib.Core.Path.{sym, ap, ◌∙◌}
use Prim.Native.Nat.{ℕ, ◌+◌, ◌-◌, ◌*◌, ◌/◌, ◌%◌}
use Rattle.tileset.proofs.ReadingLaws.{whole-tiles-are, strips-only}
use Rattle.tileset.proofs.reading.whole_tiles.Goals as goal

pub returns-then-rest-above : goal.returns-then-rest-above
returns-then-rest-above c =
    let k = c.args.cells in
    ap (λ (t : ℕ). c.args.count / (k.down * k.row) * t) c.tiles.ensures.0 ∙ strips-only _ _ _ k.grid c.args.count c.if-rest-above.true

pub returns : goal.returns
returns c =
    let k = c.args.cells in
    let n = c.args.count in
    ap (λ (t : ℕ). n / (k.down * k.row) * t + (n % (k.down * k.row) - (k.down - 1) * k.row) / k.across) c.tiles.ensures.0
    ∙ sym (whole-tiles-are _ _ _ k.grid n)
