-- Channels: the repeated bits as the code adds them, and that reducing undoes scaling up, each by one computed test.
-- Assumes nothing.
use mathlib.Core.Path.{◌≡◌}
use mathlib.Core.Bool.{Bool}
use Prim.Native.Nat.{ℕ, ◌+◌, ◌*◌, ◌-◌, ◌^◌, ◌<◌, ◌≤◌}
use native.Mathlib.Omega.{arith}
use lib.Dec.{T, eqb, eqb→eq}
use Rattle.words.specs.Inner.{bits_for, all}
use Rattle.words.proofs.Loops.{all-at}
use Rattle.mode.specs.Table.{row}
use Rattle.color.specs.Channel.{reduced, again, scaled_up}
use Rattle.color.specs.Inner.{copies}
use Rattle.color.specs.Color.{coloring}
use Rattle.color.specs.declared.Rounding.{Rounding}
use Rattle.color.specs.declared.Rounding.TheVariants.{Truncate, Nearest}

-- a rule of every component of every mode
every : (f : ℕ → ℕ → Bool) → T (all 16 (λ m. all ((row m).top + 1) (f m))) → (m : ℕ) → m < 16 → (v : ℕ) → v ≤ (row m).top → T (f m v)
every f t m h v le = all-at ((row m).top + 1) (f m) (all-at 16 (λ k. all ((row k).top + 1) (f k)) t m h) v (omega arith)

pub copies-right : (m : ℕ) → m < 16 → (v : ℕ) → v ≤ (row m).top → copies (bits_for 0 (coloring m).fields) (v * 2 ^ (8 - bits_for 0 (coloring m).fields)) ≡ scaled_up (row m).top v
unfolding coloring row scaled_up again
copies-right m h v le =
    eqb→eq (copies (bits_for 0 (coloring m).fields) (v * 2 ^ (8 - bits_for 0 (coloring m).fields))) (scaled_up (row m).top v)
    (every (λ k w. eqb (copies (bits_for 0 (coloring k).fields) (w * 2 ^ (8 - bits_for 0 (coloring k).fields))) (scaled_up (row k).top w)) tt m h v le)

undone : Rounding → ℕ → ℕ → Bool
undone how m v = eqb (reduced how (row m).top (scaled_up (row m).top v)) v

-- reducing undoes scaling up
pub component-back : (how : Rounding) (m : ℕ) → m < 16 → (v : ℕ) → v ≤ (row m).top → reduced how (row m).top (scaled_up (row m).top v) ≡ v
unfolding undone row scaled_up again
component-back Truncate m h v le = eqb→eq (reduced Truncate (row m).top (scaled_up (row m).top v)) v (every (undone Truncate) tt m h v le)
component-back Nearest m h v le = eqb→eq (reduced Nearest (row m).top (scaled_up (row m).top v)) v (every (undone Nearest) tt m h v le)
