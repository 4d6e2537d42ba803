-- The checks, then the word.
use mathlib.Core.Path.{◌≡◌, refl, sym, ap, ◌∙◌}
use Prim.Native.Nat.{ℕ}
use native.Mathlib.Omega.{arith}
use lib.ListN.{length}
use Rattle.std.specs.Prelude.{Err}
use Rattle.words.specs.Answers.{written}
use Rattle.words.specs.InnerResults.{refusal_number}
use Rattle.words.specs.declared.refusal.Refusal.TheVariants.{Output}
use Rattle.words.proofs.Bytes.{length-bytes}
use Rattle.words.proofs.Loops.{sets-front}
use Rattle.mode.specs.Table.{row}
use Rattle.mapentry.specs.Entry.{pack_says, entry_word, entry_bytes, most_first}
use Rattle.words.proofs.Answers.{done}
use Rattle.words.proofs.Refusing.{refusal-not-done, wrote_refused}
use Rattle.mapentry.proofs.Laws.{is-entry, entry_first, entry-no-space, entry-space}
use Rattle.mapentry.proofs.pack_mapentry.Goals as goal
use Rattle.mapentry.proofs.pack_mapentry.Goals.{After-mapentry_size-size}

size_is : (c : After-mapentry_size-size) → c.mapentry_size-size.result ≡ (row c.args.mode).entry
size_is c = c.mapentry_size-size.ensures ∙ ap (λ (m : ℕ). (row m).entry) c.in_ok-m.ensures.mode

pub returns-in_err-m : goal.returns-in_err-m
unfolding pack_says
returns-in_err-m c =
    let a = c.args in
    let e = c.in_err-m.field-0.0 in
    wrote_refused (pack_says a.mode a.e (length a.out.now)) (entry_bytes a.mode a.e) a.out.now c.from_residual.result e
    (entry_first a.mode a.e (length a.out.now) (row a.mode).entry (refusal_number e) c.in_err-m.ensures.says (refusal-not-done e)) c.from_residual.ensures.1

pub returns-then-out-size : goal.returns-then-out-size
unfolding pack_says
returns-then-out-size c =
    let a = c.args in
    wrote_refused (pack_says a.mode a.e (length a.out.now)) (entry_bytes a.mode a.e) a.out.now (Err Output) Output
    (entry-no-space a.mode a.e (length a.out.now) (row a.mode).entry (sym c.in_ok-m.ensures.says) (rw (size_is (goal.at.returns-then-out-size c).After-mapentry_size-size) at c.if-out-size.true)) refl

pub put_entry-requires : goal.put_entry-requires
put_entry-requires c =
    let a = c.args in
    let size = c.mapentry_size-size.ensures in
    (rw c.in_ok-m.ensures.mode (is-entry a.mode a.e (sym c.in_ok-m.ensures.says)), omega arith)

pub returns : goal.returns
unfolding pack_says
returns c =
    let a = c.args in
    let size = size_is (goal.at.returns c).After-mapentry_size-size in
    let space = rw size at c.if-out-size.false in
    let long = length-bytes (row a.mode).entry (most_first a.mode) (entry_word a.mode a.e) in
    done (entry-space a.mode a.e (length a.out.now) (row a.mode).entry (sym c.in_ok-m.ensures.says) space) (ap (λ (n : ℕ). written 0 n) (size ∙ sym long))
    (c.put_entry.ensures ∙ rw c.in_ok-m.ensures.mode (sets-front a.out.now (entry_bytes a.mode a.e) (rw long space)))
