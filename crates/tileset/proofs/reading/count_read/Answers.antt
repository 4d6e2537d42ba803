-- The checks of the bytes, then of the room and the number of tiles.
use mathlib.Core.Path.{◌≡◌, sym, ap, ◌∙◌}
use Prim.Native.Nat.{ℕ, ◌*◌, ◌%◌, ◌/◌, ◌<◌, ◌≤◌}
use native.Mathlib.Nat.{div-lt_iff_lt-mul, le-div_iff_mul-le}
use native.Mathlib.Omega.{arith}
use Rattle.tileset.specs.Reading.{unit_bytes, read_count}
use Rattle.tileset.proofs.ReadingLaws.{read-7, read-11, read-12, read-0}
use Rattle.tileset.proofs.reading.count_read.Goals as goal
use Rattle.tileset.proofs.reading.count_read.Goals.{After-area, After-unit_bytes}

left_is : (c : After-unit_bytes) → let s = c.args.shape.now in c.args.len % c.unit_bytes.result ≡ c.args.len % unit_bytes s.mode s.depth s.width s.height
left_is c = ap (λ (k : ℕ). c.args.len % k) c.unit_bytes.ensures.0

-- the tiles that are too many for the store, and those that it holds
more : (c : After-area) → let s = c.args.shape.now in
    c.args.space / c.area.result < c.read_count-count.result → c.args.space < read_count s.mode s.depth s.width s.height c.args.len * (s.width * s.height)
more c lt =
    let area = c.area.ensures in
    rw (← area.0, ← c.read_count-count.ensures) ((div-lt_iff_lt-mul {k = c.area.result} area.1.0).0 lt)

fits : (c : After-area) → let s = c.args.shape.now in
    c.read_count-count.result ≤ c.args.space / c.area.result → read_count s.mode s.depth s.width s.height c.args.len * (s.width * s.height) ≤ c.args.space
fits c le =
    let area = c.area.ensures in
    rw (← area.0, ← c.read_count-count.ensures) ((le-div_iff_mul-le {k = c.area.result} area.1.0).0 le)

pub returns-then-len-unit_bytes-ne0-clause-says : goal.returns-then-len-unit_bytes-ne0-clause-says
returns-then-len-unit_bytes-ne0-clause-says c =
    let left = left_is (goal.at.returns-then-len-unit_bytes-ne0-clause-says c).After-unit_bytes in
    read-7 _ _ _ _ _ _ c.args.shape.now.allowed (λ z. c.if-len-unit_bytes-ne0.true (left ∙ z))

pub returns-then-space-area-clause-says : goal.returns-then-space-area-clause-says
returns-then-space-area-clause-says c =
    let at = goal.at.returns-then-space-area-clause-says c in
    let whole = sym (left_is at.After-unit_bytes) ∙ c.if-len-unit_bytes-ne0.false in
    read-11 _ _ _ _ _ _ c.args.shape.now.allowed whole (more at.After-area c.if-space-area.true)

pub returns-then-count-gt65535-clause-says : goal.returns-then-count-gt65535-clause-says
returns-then-count-gt65535-clause-says c =
    let at = goal.at.returns-then-count-gt65535-clause-says c in
    let whole = sym (left_is at.After-unit_bytes) ∙ c.if-len-unit_bytes-ne0.false in
    read-12 _ _ _ _ _ _ c.args.shape.now.allowed whole (fits at.After-area c.if-space-area.false) (omega (arith, c.read_count-count.ensures, c.if-count-gt65535.true))

pub returns-clause-says : goal.returns-clause-says
returns-clause-says c =
    let at = goal.at.returns-clause-says c in
    let whole = sym (left_is at.After-unit_bytes) ∙ c.if-len-unit_bytes-ne0.false in
    read-0 _ _ _ _ _ _ c.args.shape.now.allowed whole (fits at.After-area c.if-space-area.false) (omega (arith, c.read_count-count.ensures, c.if-count-gt65535.false))
