use mathlib.Core.Path.{◌≡◌, ap, ◌∙◌}
use mathlib.Core.List.{List, []}
use Prim.Native.Nat.{ℕ, ◌+◌, ◌*◌, ◌≤◌}
use native.Mathlib.Omega.{arith}
use lib.ListN.{length}
use lib.Seq.{sets}
use Rattle.words.specs.Answers.{overwrite}
use Rattle.words.proofs.Filling.{filled-front, filled_next}
use Rattle.tile.proofs.Native.{Native}
use Rattle.tileset.specs.Reading.{read_count, read_pixels}
use Rattle.tileset.specs.Inner.{cells_in}
use Rattle.tileset.proofs.Sizes.{IsSet, set-of}
use Rattle.tileset.proofs.WritingLaws.{item-space, native-cell}
use Rattle.tileset.proofs.ReadingLaws.{tile-inside, tile-length, cells-long, rows_are}
use Rattle.tileset.proofs.reading.put_cells.Goals as goal
use Rattle.tileset.proofs.reading.put_cells.Goals.{After-unpack_cells, In-loop-n, Start}

sound : (c : Start) → IsSet c.args.shape.now.mode c.args.shape.now.depth c.args.shape.now.width c.args.shape.now.height
sound c = set-of _ _ _ _ c.args.shape.now.allowed

cell-native : (c : Start) → Native c.args.shape.now.mode c.args.shape.now.depth 8 8
cell-native c = native-cell (sound c) c.requires.1

here : (c : In-loop-n) → c.loop-n.n * (c.args.shape.now.width * c.args.shape.now.height) + c.args.shape.now.width * c.args.shape.now.height ≤ length c.args.store.now
here c = item-space c.args.count _ _ c.loop-n.n c.requires.0.space c.loop-n-test.true

long : (c : After-unpack_cells) → (cells : List ℕ) → cells ≡ overwrite c.loop-n.cells (cells_in c.args.shape.now.mode c.args.shape.now.depth c.args.shape.now.width c.args.shape.now.height (c.args.bytes.now) c.loop-n.n) → length cells ≡ 4096
long c cells e =
    let sound : IsSet c.args.shape.now.mode c.args.shape.now.depth c.args.shape.now.width c.args.shape.now.height =
    set-of _ _ _ _ c.args.shape.now.allowed in
    let cell-native : Native c.args.shape.now.mode c.args.shape.now.depth 8 8 =
    native-cell sound c.requires.1 in
    cells-long (sound) c.requires.1 (cell-native) (c.args.bytes.now) [] (c.loop-n.n) _ cells e c.loop-n.invariant.0

pub unpack_cells-requires : goal.unpack_cells-requires
unpack_cells-requires c =
    record {
      cells = c.requires.1;
      few = omega (arith, c.requires.0.few, c.loop-n-test.true);
      inside = tile-inside (sound (goal.at.unpack_cells-requires c).Start) c.requires.1 (length (c.args.bytes.now)) (c.loop-n.n) (omega (arith, c.requires.0.is, c.loop-n-test.true));
      long = c.loop-n.invariant.0;
    }

pub put_rows-requires : goal.put_rows-requires
put_rows-requires c =
    let z = sound (goal.at.put_rows-requires c).Start in
    record {
      across = z.across;
      down = z.down;
      inside = omega (arith, long (goal.at.put_rows-requires c).After-unpack_cells _ c.unpack_cells.ensures, z.small);
      space = omega (arith, here (goal.at.put_rows-requires c).In-loop-n, c.loop-n.invariant.1.long);
    }

pub loop-n-preserved : goal.loop-n-preserved
loop-n-preserved c =
    let area = c.args.shape.now.width * c.args.shape.now.height in (
      long (goal.at.loop-n-preserved c).After-unpack_cells _ c.unpack_cells.ensures,
      filled_next area (tile-length _ _ _ _ (c.args.bytes.now)) c.loop-n.invariant.1
          (c.put_rows.ensures
          ∙ ap (λ (x : List ℕ). sets c.loop-n.store (c.loop-n.n * area) x)
          (rows_are (sound (goal.at.loop-n-preserved c).Start) c.requires.1 (cell-native (goal.at.loop-n-preserved c).Start) (c.args.bytes.now) _ (c.loop-n.n) _ c.unpack_cells.ensures)),
    )

pub returns : goal.returns
unfolding read_pixels
returns c =
    let a = c.args.shape.now in
    let count = read_count a.mode a.depth a.width a.height (length (c.args.bytes.now)) in
    filled-front (a.width * a.height) count (tile-length _ _ _ _ (c.args.bytes.now)) c.loop-n.invariant.1 (omega (arith, c.requires.0.is)) (rw (← c.requires.0.is) c.requires.0.space)
