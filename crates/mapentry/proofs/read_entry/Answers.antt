-- The length, then the entry that the bytes hold.
use mathlib.Core.Path.{◌≡◌, sym, ap, ◌∙◌}
use mathlib.Core.List.{List}
use Prim.Native.Nat.{ℕ}
use native.Mathlib.Omega.{arith}
use lib.ListN.{length}
use lib.Seq.{take_all}
use borrow.Author.Tests.{eq-eqb, ne_eqb}
use Rattle.mode.specs.Table.{row}
use Rattle.mapentry.specs.Entry.{entry_of}
use Rattle.mapentry.proofs.Laws.{refused-entry, done-entry}
use Rattle.mapentry.proofs.Links.{has-entries, size-says}
use Rattle.mapentry.proofs.read_entry.Goals as goal

-- more or fewer bytes are 7
pub returns-then-bytes-mapentry_size : goal.returns-then-bytes-mapentry_size
returns-then-bytes-mapentry_size c =
    let a = c.args in
    let has = has-entries a.m c.requires in
    refused-entry 6 _ (rw (← size-says a.m has.0 has.1 a.bytes.now, ne_eqb _ _ (λ e. c.if-bytes-mapentry_size.true (e ∙ sym c.mapentry_size.ensures))))

pub returns : goal.returns
returns c =
    let a = c.args in
    let has = has-entries a.m c.requires in
    let size : length a.bytes.now ≡ (row a.m).entry = c.if-bytes-mapentry_size.false ∙ c.mapentry_size.ensures in
    done-entry c.get_entry.result (entry_of a.m a.bytes.now) (rw (← size-says a.m has.0 has.1 a.bytes.now, eq-eqb _ _ size))
    (c.get_entry.ensures ∙ ap (λ (bs : List ℕ). entry_of a.m bs) (take_all (row a.m).entry a.bytes.now (omega arith)))
