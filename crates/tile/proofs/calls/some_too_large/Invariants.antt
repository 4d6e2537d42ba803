-- The bits of all pixels reach 2^depth exactly where some pixel does.
use mathlib.Core.Path.{◌≡◌}
use Prim.Native.Nat.{◌^◌}
use lib.Dec.{leb}
use Rattle.words.specs.Loops.{some}
use Rattle.tile.specs.Tile.{too_large}
use Rattle.tile.proofs.calls.some_too_large.Given as goal

abbrev pub invariant-loop-pixel : goal.invariant-loop-pixel
invariant-loop-pixel l = leb (2 ^ l.depth) l.bits ≡ some l.pixel-index (too_large l.depth l.pixels)
