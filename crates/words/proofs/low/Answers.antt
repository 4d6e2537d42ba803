-- The mask keeps the bits below it.
use Prim.Native.Nat.{◌*◌, ◌%◌, ◌^◌}
use mathlib.Core.Path.{◌≡◌}
use native.Mathlib.Nat.{mod-eq_of_lt, one-mul}
use lib.Bits.{and_mask}
use lib.Pow.{pow-lt, pow_pos}
use Rattle.words.proofs.low.Goals as goal
use Rattle.words.proofs.low.Goals.{Start}

-- the power stays below 2 ^ 32
power : (c : Start) → 1 * 2 ^ c.args.bits % 4294967296 ≡ 2 ^ c.args.bits
power c = rw one-mul (mod-eq_of_lt (pow-lt {j = 32} c.requires))

pub overflow_sub-result : goal.overflow_sub-result
overflow_sub-result c = rw (power c) (pow_pos c.args.bits)

pub returns : goal.returns
returns c = rw (power c) (and_mask c.args.x c.args.bits)
