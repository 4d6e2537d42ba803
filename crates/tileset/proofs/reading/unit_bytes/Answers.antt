-- A sprite's bytes in pce_sprite, a cell's in the other modes.
use mathlib.Core.Path.{◌≡◌, sym, ap, ◌∙◌}
use Prim.Native.Nat.{ℕ, ◌*◌, ◌/◌}
use native.Mathlib.Omega.{arith}
use borrow.Author.Tests.{eqb-true, eqb-false}
use Rattle.mode.specs.Table.{pce-sprite}
use Rattle.tileset.specs.Reading.{unit_bytes}
use Rattle.tileset.proofs.Sizes.{set-of}
use Rattle.tileset.proofs.ReadingLaws.{sprite-unit, cell-unit, unit-some}
use Rattle.tileset.proofs.reading.unit_bytes.Goals as goal

pub returns-then-eq : goal.returns-then-eq
returns-then-eq c =
    let s = c.args.shape.now in
    let is : c.area.result * s.depth / 8 ≡ unit_bytes s.mode s.depth s.width s.height =
    ap (λ (n : ℕ). n * s.depth / 8) c.area.ensures.0 ∙ sprite-unit _ _ _ _ 0 (eqb-true s.mode pce-sprite (sym c.if-eq.ensures)) in
    (is, rw is (unit-some (set-of _ _ _ _ s.allowed)))

pub overflow_mul-result-2 : goal.overflow_mul-result-2
overflow_mul-result-2 c = omega (arith, (set-of _ _ _ _ c.args.shape.now.allowed).deep)

pub returns : goal.returns
returns c =
    let s = c.args.shape.now in
    let is : s.depth * 8 ≡ unit_bytes s.mode s.depth s.width s.height = cell-unit _ _ _ _ 0 (eqb-false s.mode pce-sprite (sym c.if-eq.ensures)) in
    (is, rw is (unit-some (set-of _ _ _ _ s.allowed)))
