-- Each turn stores a cell.
use mathlib.Core.List.{List, [], ◌∷◌}
use Prim.Native.Nat.{ℕ, ◌+◌, ◌*◌}
use Rattle.words.specs.Loops.{each}
use Rattle.words.proofs.Filling.{Filled}
use Rattle.tile.specs.Layout.{element}
use Rattle.tile.specs.Packings.{sprite}
use Rattle.tile.proofs.sprites.put_sprite.Given as goal

-- the bytes of cell i
abbrev pub cell : List ℕ → ℕ → ℕ → ℕ → List ℕ
cell tile width height i = each 128 (λ k. element (sprite width height).bytes tile (i * 128 + k) ∷ [])

abbrev pub invariant-loop-c : goal.invariant-loop-c
invariant-loop-c l = Filled (cell l.tile l.width l.height) l.initial.out l.at l.c l.out
