-- Refused, or the tiles at the front of the store.
use mathlib.Core.Path.{sym, ◌∙◌, subst}
use lib.Dec.{T}
use lib.ListN.{length}
use Rattle.tileset.specs.Inner.{ReadsAll}
use Rattle.tileset.proofs.Sizes.{set-of}
use Rattle.tileset.proofs.WritingLaws.{in_cells}
use Rattle.tileset.proofs.ReadingLaws.{read_refused, read-space, read-few, refuse-read, native-as}
use Rattle.tileset.proofs.reading.read.Goals as goal
use Rattle.tileset.proofs.reading.read.Goals.{In_ok-count}

reads : (c : In_ok-count) → ReadsAll c.in_ok-shape.shape c.in_ok-count.count c.args.bytes.now c.args.store.now
reads c =
    let s = c.in_ok-shape.shape in
    let found = c.in_ok-count.ensures in
    let len = length c.args.bytes.now in
    let space = length c.args.store.now in
    record {
      few = rw found.count (read-few s.mode s.depth s.width s.height len space (sym found.says));
      is = found.count;
      space = rw found.count (read-space s.mode s.depth s.width s.height len space (sym found.says));
    }

pub returns-in_err-shape : goal.returns-in_err-shape
returns-in_err-shape c =
    let a = c.args in
    let e = c.in_err-shape.field-0.0 in
    refuse-read a.mode a.depth a.width a.height a.flips a.bytes.now a.store.now _ e (read_refused _ _ _ _ _ _ e c.in_err-shape.ensures.says) c.from_residual.ensures.1

pub put_tiles-requires : goal.put_tiles-requires
put_tiles-requires c = (reads (goal.at.put_tiles-requires c).In_ok-count, subst T (c.if-is_native.ensures ∙ sym (native-as c.in_ok-shape.ensures.shape)) tt)

pub put_cells-requires : goal.put_cells-requires
put_cells-requires c =
    (reads (goal.at.put_cells-requires c).In_ok-count, in_cells (set-of _ _ _ _ c.in_ok-shape.shape.allowed) (native-as c.in_ok-shape.ensures.shape ∙ sym c.if-is_native.ensures))
