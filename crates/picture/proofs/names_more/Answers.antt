use mathlib.Core.Path.{◌≡◌, sym, ap, ◌∙◌}
use Prim.Native.Nat.{ℕ}
use native.Mathlib.Numerals.{add-one}
use native.Mathlib.Omega.{arith}
use lib.Dec.{leb}
use borrow.Author.Tests.{le-leb, lt-leb}
use Rattle.words.proofs.Loops.{some-true}
use Rattle.picture.specs.Entries.{tile_named}
use Rattle.picture.specs.Redrawing.{entry_at}
use Rattle.picture.proofs.Drawing.{entry_read}
use Rattle.picture.proofs.names_more.Goals as goal
use Rattle.picture.proofs.names_more.Goals.{After-tile_named, In-loop-i}

abbrev named : (c : After-tile_named) → ℕ → ℕ
named c i = tile_named c.args.m 8 8 (entry_at c.args.m c.args.map.now i)

named-is : (c : After-tile_named) → c.tile_named.result.0 ≡ named c c.loop-i.i
named-is c =
    let size = c.mapentry_size-size in
    let read = entry_read c.args.m c.loop-i.i size.result c.args.map.now c.get_entry-e.ensures size.ensures in
    c.tile_named.ensures ∙ ap (tile_named c.args.m 8 8) read

pub returns-then-tiles-tile_named : goal.returns-then-tiles-tile_named
returns-then-tiles-tile_named c =
    let a = c.args in
    sym (some-true a.count (λ i. leb a.tiles (named (goal.at.returns-then-tiles-tile_named c).After-tile_named i)) (c.loop-i.i) c.loop-i-test.true (le-leb a.tiles (named (goal.at.returns-then-tiles-tile_named c).After-tile_named (c.loop-i.i)) (omega (arith, c.if-tiles-tile_named.true, named-is (goal.at.returns-then-tiles-tile_named c).After-tile_named))))

pub loop-i-preserved : goal.loop-i-preserved
loop-i-preserved c =
    let a = c.args in
    rw (add-one, c.loop-i.invariant) (lt-leb a.tiles (named (goal.at.loop-i-preserved c).After-tile_named (c.loop-i.i)) (omega (arith, c.if-tiles-tile_named.false, named-is (goal.at.loop-i-preserved c).After-tile_named)))
