use mathlib.Core.Path.{◌≡◌, sym, ap, ◌∙◌, subst}
use Prim.Native.Nat.{ℕ, ◌≤◌, ◌+◌, ◌*◌}
use native.Mathlib.Omega.{arith}
use lib.ListN.{length}
use lib.Seq.{sets}
use Rattle.words.proofs.Filling.{filled_next}
use Rattle.words.proofs.Items.{item-inside}
use Rattle.mode.specs.Table.{row}
use Rattle.mapentry.specs.declared.Mapentry.{Mapentry}
use Rattle.mapentry.proofs.Laws.{some_byte}
use Rattle.picture.specs.Entries.{tile_named}
use Rattle.picture.specs.Redrawing.{entry_at, drawn_tile}
use Rattle.picture.proofs.Drawing.{drawn-length, entry_read}
use Rattle.picture.proofs.draw_strip.Goals as goal
use Rattle.picture.proofs.draw_strip.Goals.{After-get_entry-e, In-loop-x}

entry-inside : (c : In-loop-x) → (c.args.first + c.loop-x.x) * c.mapentry_size-size.result + (row c.args.m).entry ≤ length c.args.map.now
entry-inside c =
    let a = c.args in
    let k = (row a.m).entry in
    subst (λ (n : ℕ). (c.args.first + c.loop-x.x) * n + k ≤ length a.map.now) (sym c.mapentry_size-size.ensures)
    (omega (arith, item-inside k (a.first + a.columns) (c.args.first + c.loop-x.x) (omega (arith, c.loop-x-test.true)), c.requires.inside))

-- the entry that is read
read : (c : After-get_entry-e) → let a = c.args in c.get_entry-e.result ≡ entry_at a.m a.map.now (c.args.first + c.loop-x.x)
read c =
    let a = c.args in
    let size = c.mapentry_size-size in
    entry_read a.m (c.args.first + c.loop-x.x) size.result a.map.now c.get_entry-e.ensures size.ensures

pub get_entry-e-requires : goal.get_entry-e-requires
get_entry-e-requires c = (some_byte c.args.m c.requires.mode c.requires.mapped, entry-inside c)

pub draw_tile-requires : goal.draw_tile-requires
draw_tile-requires c =
    let a = c.args in
    record {
      mode = c.requires.mode;
      map = c.requires.mapped;
      depth = c.requires.depth;
      inside = subst (λ (e : Mapentry). tile_named a.m 8 8 e * (a.depth * 8) + a.depth * 8 ≤ length a.tiles.now)
          (sym (read (goal.at.draw_tile-requires c).After-get_entry-e)) (c.requires.named c.loop-x.x c.loop-x-test.true);
      space = omega (arith, c.requires.space, c.loop-x-test.true, c.loop-x.invariant.long);
    }

pub loop-x-preserved : goal.loop-x-preserved
loop-x-preserved c =
    let a = c.args in
    let lp = c.loop-x in
    filled_next 64 (λ x. drawn-length a.m a.depth a.tiles.now (entry_at a.m a.map.now (a.first + x))) lp.invariant
    (c.draw_tile.ensures ∙ ap (λ (e : Mapentry). sets lp.out (lp.x * 64) (drawn_tile a.m a.depth a.tiles.now e)) (read (goal.at.loop-x-preserved c).After-get_entry-e))
