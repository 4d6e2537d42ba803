use Rattle.tile.proofs.sprites.cell_words.Invariants.{word}
use mathlib.Core.Path.{◌≡◌, subst}
use Prim.Native.Nat.{ℕ}
use native.Mathlib.Omega.{arith}
use Rattle.tile.proofs.Filling.{Starts, starts_none}
use Rattle.tile.proofs.Sides.{cell-read}
use Rattle.tile.proofs.sprites.cell_words.Goals as goal
use Rattle.tile.proofs.sprites.cell_words.Goals.{In-loop-i}

pub loop-i-init : goal.loop-i-init
loop-i-init c = let a = c.args in starts_none (word a.tile.now a.from a.width) _ tt

pub returns : goal.returns
returns c =
    let a = c.args in
    let l = c.loop-i in
    let all : l.i ≡ 32 = omega arith in
    cell-read a.tile.now (λ i. (c.type_inv.tile i).fits) a.from a.width
    (subst (λ (n : ℕ). Starts 32 (word a.tile.now a.from a.width) n l.ws) all l.invariant)
