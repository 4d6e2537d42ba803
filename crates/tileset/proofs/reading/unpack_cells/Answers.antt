use mathlib.Core.Path.{◌≡◌, ap, ◌∙◌}
use mathlib.Core.List.{List}
use Prim.Native.Nat.{ℕ, ◌+◌, ◌*◌, ◌/◌, ◌%◌, ◌<◌, ◌≤◌}
use native.Mathlib.Nat.{mod-le}
use native.Mathlib.Omega.{arith}
use lib.ListN.{length}
use lib.Seq.{sets}
use Rattle.words.proofs.Filling.{filled-front, filled_next}
use Rattle.tile.proofs.Native.{Native}
use Rattle.tileset.specs.Reading.{last_cell}
use Rattle.tileset.proofs.Sizes.{IsSet, set-of}
use Rattle.tileset.proofs.WritingLaws.{native-cell}
use Rattle.tileset.proofs.ReadingLaws.{cell-in-length, unpacks-at, cell-size, unpacks-cell, cell-inside, cell-row-fits, cells-area, starts-few}
use Rattle.tileset.proofs.reading.unpack_cells.Invariants.{pixels}
use Rattle.tileset.proofs.reading.unpack_cells.Goals as goal
use Rattle.tileset.proofs.reading.unpack_cells.Goals.{After-cells-cells, In-loop-i, Start}

sound : (c : Start) → let s = c.args.shape.now in IsSet s.mode s.depth s.width s.height
sound c = set-of _ _ _ _ c.args.shape.now.allowed

cell-native : (c : Start) → Native c.args.shape.now.mode c.args.shape.now.depth 8 8
cell-native c = native-cell (sound c) c.requires.cells

size_is : (c : Start) → (h r first k : ℕ) → length (pixels c.args.shape.now.mode c.args.shape.now.depth c.args.bytes.now h r first k) ≡ 64
size_is c h r first k = cell-in-length (cell-native c) c.args.bytes.now (first + k / h * r + k % h)

few : (c : After-cells-cells) → c.cells-cells.result.across * c.cells-cells.result.down ≤ 64
few c =
    let s = c.args.shape.now in
    let sound : IsSet s.mode s.depth s.width s.height = set-of _ _ _ _ s.allowed in
    rw (c.cells-cells.ensures.across, c.cells-cells.ensures.down) (omega (arith, cells-area sound, sound.small))

-- the cell that stands at place i of the tile
abbrev cell : (c : In-loop-i) → ℕ
cell c = let k = c.cells-cells.result in c.starts_at-first.result.0 + c.loop-i.i / k.across * k.row + c.loop-i.i % k.across

from : (c : In-loop-i) → cell c * (c.args.shape.now.depth * 8) + c.args.shape.now.depth * 8 ≤ length c.args.bytes.now
from c =
    let k = c.cells-cells.result in
    let is = c.cells-cells.ensures in
    let inside : (last_cell k.row k.across k.down c.args.n.0 + 1) * (c.args.shape.now.depth * 8) ≤ length c.args.bytes.now = rw (is.row, is.across, is.down) c.requires.inside in
    rw c.starts_at-first.ensures (cell-inside _ _ _ k.grid c.args.n.0 c.loop-i.i c.loop-i-test.true _ _ inside)

row-few : (c : In-loop-i) → c.loop-i.i / c.cells-cells.result.across * c.cells-cells.result.row ≤ 128
row-few c = cell-row-fits _ _ _ c.cells-cells.result.grid c.args.n.0 c.loop-i.i c.loop-i-test.true

first-few : (c : In-loop-i) → c.starts_at-first.result.0 ≤ 9437040
first-few c = rw c.starts_at-first.ensures (starts-few _ _ _ c.cells-cells.result.grid c.args.n.0 c.requires.few)

space : (c : In-loop-i) → c.loop-i.i < 64
space c =
    let s = c.args.shape.now in
    let sound : IsSet s.mode s.depth s.width s.height = set-of _ _ _ _ s.allowed in
    let few : c.cells-cells.result.across * c.cells-cells.result.down ≤ 64 =
    rw (c.cells-cells.ensures.across, c.cells-cells.ensures.down) (omega (arith, cells-area sound, sound.small)) in
    omega (arith, few, c.loop-i-test.true)

pub overflow_mul-size : goal.overflow_mul-size
overflow_mul-size c = omega (arith, (sound (goal.at.overflow_mul-size c).Start).deep)

pub overflow_add-cell : goal.overflow_add-cell
overflow_add-cell c = omega (arith, row-few (goal.at.overflow_add-cell c).In-loop-i, first-few (goal.at.overflow_add-cell c).In-loop-i)

pub overflow_add-cell-in-loop-i : goal.overflow_add-cell-in-loop-i
overflow_add-cell-in-loop-i c =
    let at = (goal.at.overflow_add-cell-in-loop-i c).In-loop-i in
    omega (arith, row-few at, first-few at, mod-le c.loop-i.i c.cells-cells.result.across, space at)

pub put_pixels-requires : goal.put_pixels-requires
put_pixels-requires c =
    let at = goal.at.put_pixels-requires c in
    unpacks-at (cell-native at.Start) c.packing_of-p.ensures _ _ _ _ (rw (cell-size c.args.shape.now.depth) (from at.In-loop-i))
    (omega (arith, space at.In-loop-i, c.loop-i.invariant.long, c.requires.long))

pub loop-i-preserved : goal.loop-i-preserved
loop-i-preserved c =
    let at = goal.at.loop-i-preserved c in
    let cell-is = unpacks-cell (cell-native at.Start) c.packing_of-p.ensures c.args.bytes.now (cell at.In-loop-i * (c.args.shape.now.depth * 8)) in
    filled_next 64 (size_is at.Start _ _ _) c.loop-i.invariant (c.put_pixels.ensures ∙ ap (λ (x : List ℕ). sets c.loop-i.out (c.loop-i.i * 64) x) cell-is)

pub returns : goal.returns
returns c =
    let at = goal.at.returns c in
    let k = c.cells-cells.result in
    let is = c.cells-cells.ensures in
    let all = filled-front 64 (k.across * k.down) (size_is at.Start _ _ _) c.loop-i.invariant (omega arith) (omega (arith, few at.After-cells-cells, c.requires.long)) in
    all ∙ rw (c.starts_at-first.ensures, is.row, is.across, is.down)
