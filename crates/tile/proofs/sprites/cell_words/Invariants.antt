-- Each turn reads a word, two a row.
use mathlib.Core.Bool.{false}
use mathlib.Core.List.{List}
use Prim.Native.Nat.{ℕ, ◌+◌, ◌*◌, ◌/◌, ◌%◌}
use Rattle.words.specs.Inner.{word_at}
use Rattle.tile.proofs.Filling.{Starts}
use Rattle.tile.proofs.sprites.cell_words.Given as goal

-- word i of the cell
abbrev pub word : List ℕ → ℕ → ℕ → ℕ → ℕ
word tile from width i = word_at false tile (from + i / 2 * width + i % 2 * 8)

abbrev pub invariant-loop-i : goal.invariant-loop-i
invariant-loop-i l = Starts 32 (word l.tile l.from l.width) l.i l.ws
