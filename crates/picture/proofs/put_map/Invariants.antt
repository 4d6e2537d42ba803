-- The first i of the entries are put.
use Prim.Native.Nat.{◌*◌}
use lib.ListN.{get_or}
use Rattle.words.proofs.Filling.{Filled}
use Rattle.mode.specs.Table.{row}
use Rattle.mapentry.specs.Entry.{entry_bytes}
use Rattle.picture.specs.Inner.{entry_coded}
use Rattle.picture.proofs.put_map.Given as goal

abbrev pub invariant-loop-i : goal.invariant-loop-i
invariant-loop-i l =
    Filled (λ i. entry_bytes l.m (entry_coded l.m l.palette (get_or l.codes i 0))) l.initial.map (l.first * (row l.m).entry) l.i l.map
