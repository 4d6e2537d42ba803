-- The sprites, or the whole tiles of the bytes' cells.
use mathlib.Core.Path.{◌≡◌, sym, ap, ◌∙◌}
use Prim.Native.Nat.{ℕ, ◌*◌, ◌/◌}
use borrow.Author.Tests.{eqb-true, eqb-false}
use Rattle.mode.specs.Table.{pce-sprite}
use Rattle.tileset.specs.Reading.{unit_bytes}
use Rattle.tileset.proofs.ReadingLaws.{sprite-unit, cell-unit, sprite-count, cell-count}
use Rattle.tileset.proofs.reading.read_count.Goals as goal
use Rattle.tileset.proofs.reading.read_count.Goals.{After-unit_bytes}

units : (c : After-unit_bytes) → let s = c.args.shape.now in (unit : ℕ) → unit ≡ unit_bytes s.mode s.depth s.width s.height → c.args.len / c.unit_bytes.result ≡ c.args.len / unit
units c unit e = ap (λ (k : ℕ). c.args.len / k) (c.unit_bytes.ensures.0 ∙ sym e)

pub returns-then-eq : goal.returns-then-eq
returns-then-eq c =
    let is = eqb-true c.args.shape.now.mode pce-sprite (sym c.if-eq.ensures) in
    units (goal.at.returns-then-eq c).After-unit_bytes _ (sprite-unit _ _ _ _ 0 is) ∙ sprite-count _ _ _ _ c.args.len is

pub returns : goal.returns
returns c =
    let s = c.args.shape.now in
    let other = eqb-false s.mode pce-sprite (sym c.if-eq.ensures) in
    let is = c.cells.ensures in
    let count = cell-count _ _ _ _ c.args.len other in
    c.whole_tiles.ensures
    ∙ rw (is.row, is.across, is.down, units (goal.at.returns c).After-unit_bytes (s.depth * 8) (cell-unit _ _ _ _ 0 other)) count
