-- A fact about every mode, from sixteen facts about one each.
-- Assumes nothing.
use mathlib.Core.Path.{sym, subst}
use mathlib.Core.Logic.{⊎_elim}
use Prim.Native.Nat.{ℕ, zero, suc, ◌<◌}
use native.Mathlib.Nat.{not-suc-le-zero, eq-or-lt_of_le, le_of_suc-le-suc}

-- the facts about the numbers below n, in one: a tactic may prove all of it at once
abbrev pub Each : (ℕ → Type 0) → ℕ → Type 0
Each P zero = Unit {0}
Each P (suc n) = Each P n × P n

pub in-each : (P : ℕ → Type 0) (n : ℕ) → Each P n → (m : ℕ) → m < n → P m
in-each P zero e m h = absurd (not-suc-le-zero h)
in-each P (suc n) e m h =
    ⊎_elim (λ q. subst P (sym q) e.1) (λ l. in-each P n e.0 m l) (eq-or-lt_of_le (le_of_suc-le-suc h))

pub every-mode : (P : ℕ → Type 0) → Each P 16 → (m : ℕ) → m < 16 → P m
every-mode P e = in-each P 16 e

pub by_mode : (P : ℕ → Type 0) → P 0 → P 1 → P 2 → P 3 → P 4 → P 5 → P 6 → P 7 → P 8 → P 9 → P 10 → P 11 → P 12 → P 13 → P 14 → P 15 → (m : ℕ) → m < 16 → P m
by_mode P p0 p1 p2 p3 p4 p5 p6 p7 p8 p9 p10 p11 p12 p13 p14 p15 =
    every-mode P ((((((((((((((((tt, p0), p1), p2), p3), p4), p5), p6), p7), p8), p9), p10), p11), p12), p13), p14), p15)
