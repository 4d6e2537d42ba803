-- The checks, one after the other.
use mathlib.Core.Path.{◌≡◌, sym, ap, ◌∙◌}
use mathlib.Core.Bool.{false}
use Prim.Native.Nat.{◌≤◌, ◌*◌}
use native.Mathlib.Nat.{mul-le-mul}
use native.Mathlib.Omega.{arith}
use lib.ListN.{length}
use Rattle.words.specs.Loops.{some}
use Rattle.mode.specs.Table.{row}
use Rattle.mapentry.proofs.Laws.{small, some_byte}
use Rattle.picture.specs.Converting.{size_says}
use Rattle.picture.specs.Redrawing.{names_more}
use Rattle.words.proofs.Refusing.{answered-again, refusal-not-done}
use Rattle.picture.proofs.Checks.{IsSize, size_of, few-tiles}
use Rattle.picture.proofs.RedrawChecks.{redraw-size, redraw-tiles, redraw-map, redraw-named, redraw-11, redraw-0}
use Rattle.picture.proofs.redraw_says.Goals as goal
use Rattle.picture.proofs.redraw_says.Goals.{Else-map-count, Else-names_more, In_ok-size_says}

none : (c : In_ok-size_says) → let a = c.args in size_says a.mode a.depth a.columns a.rows ≡ 0
none c = sym c.in_ok-size_says.ensures

sound : (c : In_ok-size_says) → let a = c.args in IsSize a.mode a.depth a.columns a.rows
sound c = size_of _ _ _ _ (none c)

whole : (c : Else-map-count) → length c.args.map.now ≡ (c.args.columns * c.args.rows * ((row c.args.mode).entry))
whole c = c.if-map-count.false ∙ ap (λ size. c.args.columns * c.args.rows * size) (c.mapentry_size.ensures ∙ ap (λ m. (row m).entry) c.at-m.ensures)

all_named : (c : Else-names_more) → let a = c.args in
    some (a.columns * a.rows) (names_more a.mode a.depth (length a.tiles.now) a.map.now) ≡ false
all_named c =
    let a = c.args in
    ap (λ m. some (a.columns * a.rows) (names_more m a.depth (length a.tiles.now) a.map.now)) (sym c.at-m.ensures) ∙ sym c.names_more.ensures ∙ c.if-names_more.false

pub returns-in_err-size_says : goal.returns-in_err-size_says
returns-in_err-size_says c =
    let n = answered-again _ c.from_residual.result c.from_residual.ensures.1 in
    redraw-size _ _ _ _ _ _ _ _ (n ∙ c.in_err-size_says.ensures) (λ z. refusal-not-done _ (sym n ∙ z))

pub overflow_mul-size : goal.overflow_mul-size
overflow_mul-size c = omega (arith, (sound c).deep)

pub nonzero_rem-tiles : goal.nonzero_rem-tiles
nonzero_rem-tiles c = omega (arith, (sound c).shallow)

pub returns-then-tiles-size-ne0 : goal.returns-then-tiles-size-ne0
returns-then-tiles-size-ne0 c = redraw-tiles _ _ _ _ _ _ _ (none (goal.at.returns-then-tiles-size-ne0 c).In_ok-size_says) c.if-tiles-size-ne0.true

pub overflow_mul-count : goal.overflow_mul-count
overflow_mul-count c = omega (arith, few-tiles (sound (goal.at.overflow_mul-count c).In_ok-size_says))

pub at-m-requires : goal.at-m-requires
at-m-requires c = (sound (goal.at.at-m-requires c).In_ok-size_says).mode

pub overflow_mul-count-2 : goal.overflow_mul-count-2
overflow_mul-count-2 c =
    let a = c.args in
    let two : c.mapentry_size.result ≤ 2 = omega (arith, c.mapentry_size.ensures ∙ ap (λ m. (row m).entry) c.at-m.ensures, (small a.mode (sound (goal.at.overflow_mul-count-2 c).In_ok-size_says).mode).entry) in
    omega (arith, mul-le-mul {n₁ = a.columns * a.rows} {m₁ = c.mapentry_size.result} {n₂ = 4096} {m₂ = 2} (few-tiles (sound (goal.at.overflow_mul-count-2 c).In_ok-size_says)) two)

pub returns-then-map-count : goal.returns-then-map-count
returns-then-map-count c =
    redraw-map _ _ _ _ _ _ _ (none (goal.at.returns-then-map-count c).In_ok-size_says) c.if-tiles-size-ne0.false (λ q. c.if-map-count.true (q ∙ ap (λ size. c.args.columns * c.args.rows * size) (sym (c.mapentry_size.ensures ∙ ap (λ m. (row m).entry) c.at-m.ensures))))

pub nonzero_div-tiles : goal.nonzero_div-tiles
nonzero_div-tiles c = omega (arith, (sound (goal.at.nonzero_div-tiles c).In_ok-size_says).shallow)

pub names_more-requires : goal.names_more-requires
names_more-requires c =
    let s = sound (goal.at.names_more-requires c).In_ok-size_says in
    let w = whole c in
    rw c.at-m.ensures record { mode = s.mode; some = some_byte _ s.mode s.map; few = few-tiles s; inside = omega (arith, w) }

pub returns-then-names_more : goal.returns-then-names_more
returns-then-names_more c =
    redraw-named _ _ _ _ _ _ _ (none (goal.at.returns-then-names_more c).In_ok-size_says) c.if-tiles-size-ne0.false (whole (goal.at.returns-then-names_more c).Else-map-count) (ap (λ m. some (c.args.columns * c.args.rows) (names_more m c.args.depth (length c.args.tiles.now) c.args.map.now)) (sym c.at-m.ensures) ∙ sym c.names_more.ensures ∙ c.if-names_more.true)

pub overflow_mul-count-3 : goal.overflow_mul-count-3
overflow_mul-count-3 c = omega (arith, few-tiles (sound (goal.at.overflow_mul-count-3 c).In_ok-size_says))

pub returns-then-space-count : goal.returns-then-space-count
returns-then-space-count c =
    redraw-11 _ _ _ _ _ _ _ (none (goal.at.returns-then-space-count c).In_ok-size_says) c.if-tiles-size-ne0.false (whole (goal.at.returns-then-space-count c).Else-map-count) (all_named (goal.at.returns-then-space-count c).Else-names_more) c.if-space-count.true

pub returns : goal.returns
returns c =
    redraw-0 _ _ _ _ _ _ _ (none (goal.at.returns c).In_ok-size_says) c.if-tiles-size-ne0.false (whole (goal.at.returns c).Else-map-count) (all_named (goal.at.returns c).Else-names_more) c.if-space-count.false
