-- A tile that the mode has is small.
use mathlib.Core.Path.{sym}
use native.Mathlib.Omega.{arith}
use Rattle.tile.proofs.Checks.{fitting-of}
use Rattle.tile.proofs.calls.pack_says.Goals as goal

pub overflow_mul-size : goal.overflow_mul-size
overflow_mul-size c = omega (arith, (fitting-of (sym c.in_ok-m.ensures.says)).few)

pub some_too_large-requires : goal.some_too_large-requires
some_too_large-requires c = (fitting-of (sym c.in_ok-m.ensures.says)).deep

pub overflow_mul-size-2 : goal.overflow_mul-size-2
overflow_mul-size-2 c = omega (arith, (fitting-of (sym c.in_ok-m.ensures.says)).small)

pub overflow_cast-size-2 : goal.overflow_cast-size-2
overflow_cast-size-2 c = omega (arith, (fitting-of (sym c.in_ok-m.ensures.says)).small)
