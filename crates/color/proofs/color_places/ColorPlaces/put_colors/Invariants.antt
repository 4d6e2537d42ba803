-- The colours of the words passed stand in front of what was there before.
use mathlib.Core.Path.{◌≡◌}
use mathlib.Core.List.{◌++◌}
use Prim.Native.Nat.{◌*◌}
use lib.ListN.{length, drop}
use Rattle.words.specs.Loops.{each}
use Rattle.color.specs.Inner.{color_from, word_from}
use Rattle.color.proofs.color_places.ColorPlaces.put_colors.Given as goal

abbrev pub invariant-loop-i : goal.invariant-loop-i
invariant-loop-i l =
    (l.from ≡ l.i * l.self.size)
    × (length l.out ≡ length l.initial.out)
    × (l.out ≡ each l.i (λ k. color_from l.self (word_from l.self l.bytes (k * l.self.size))) ++ drop (l.i * 4) l.initial.out)
