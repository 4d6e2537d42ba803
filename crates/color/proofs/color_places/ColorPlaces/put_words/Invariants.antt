-- The words of the colours passed stand in front of what was there before.
use mathlib.Core.Path.{◌≡◌}
use mathlib.Core.List.{◌++◌}
use Prim.Native.Nat.{◌*◌}
use lib.ListN.{length, drop}
use Rattle.words.specs.Loops.{each}
use Rattle.color.specs.Inner.{color_bytes}
use Rattle.color.proofs.color_places.ColorPlaces.put_words.Given as goal

abbrev pub invariant-loop-i : goal.invariant-loop-i
invariant-loop-i l =
    (length l.out ≡ length l.initial.out) × (l.out ≡ each l.i (color_bytes l.self l.colors) ++ drop (l.i * l.self.size) l.initial.out)
