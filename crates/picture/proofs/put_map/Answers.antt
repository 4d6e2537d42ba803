use mathlib.Core.Path.{◌≡◌, ap, ◌∙◌}
use Prim.Native.Nat.{ℕ, ◌+◌, ◌*◌}
use native.Mathlib.Nat.{add-mul}
use lib.ListN.{length, get_or}
use lib.Seq.{sets}
use Rattle.words.proofs.Filling.{filled_more}
use Rattle.mode.specs.Table.{row}
use Rattle.mapentry.specs.Entry.{entry_bytes}
use Rattle.mapentry.specs.declared.Mapentry.{Mapentry}
use Rattle.picture.specs.Inner.{entry_coded}
use Rattle.picture.proofs.Converted.{entry-size}
use Rattle.picture.proofs.put_map.Goals as goal
use Rattle.picture.proofs.put_map.Goals.{In-loop-i, Start}

size_is : (c : Start) → let a = c.args in (i : ℕ) → length (entry_bytes a.m (entry_coded a.m a.palette (get_or a.codes.now i 0))) ≡ (row a.m).entry
size_is c i = let a = c.args in entry-size a.m (entry_coded a.m a.palette (get_or a.codes.now i 0))

pub loop-i-preserved : goal.loop-i-preserved
loop-i-preserved c =
    let m = c.args.m in
    let lp = c.loop-i in
    let coded = c.mapentry_size-size in
    let entry = c.entry_coded in
    filled_more (row m).entry (size_is (goal.at.loop-i-preserved c).Start) lp.invariant
    (c.put_entry.ensures
    ∙ ap (λ (n : ℕ). sets lp.map ((c.args.first + c.loop-i.i) * n) (entry_bytes m entry.result)) coded.ensures
    ∙ ap (λ (e : Mapentry). sets lp.map ((c.args.first + c.loop-i.i) * (row m).entry) (entry_bytes m e)) entry.ensures
    ∙ ap (λ (n : ℕ). sets lp.map n (entry_bytes m (entry_coded m c.args.palette (get_or c.args.codes.now lp.i 0)))) (add-mul c.args.first lp.i (row m).entry))
