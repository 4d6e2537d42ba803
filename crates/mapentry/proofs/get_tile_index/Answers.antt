-- The tile index as a word of its own.
use mathlib.Core.Path.{◌≡◌, refl, sym, ap, ◌∙◌}
use mathlib.Core.Bool.{false}
use Prim.Native.Nat.{ℕ}
use lib.ListN.{length}
use Rattle.std.specs.Prelude.{Err}
use Rattle.words.specs.Answers.{written}
use Rattle.words.specs.InnerResults.{refusal_number}
use Rattle.words.specs.declared.refusal.Refusal.TheVariants.{Output}
use Rattle.words.proofs.Bytes.{length-bytes}
use Rattle.words.proofs.Loops.{sets-front}
use Rattle.mapentry.specs.Entry.{index_says, index_size, index_bytes}
use Rattle.words.proofs.Answers.{done}
use Rattle.words.proofs.Refusing.{refusal-not-done, wrote_refused}
use Rattle.mapentry.proofs.Laws.{entry_first, entry-no-space, entry-space}
use Rattle.mapentry.proofs.get_tile_index.Goals as goal
use Rattle.mapentry.proofs.get_tile_index.Goals.{After-index_size-size}

size_is : (c : After-index_size-size) → c.index_size-size.result ≡ index_size c.args.mode
size_is c = c.index_size-size.ensures ∙ ap (λ (m : ℕ). index_size m) c.in_ok-m.ensures.mode

pub returns-in_err-m : goal.returns-in_err-m
unfolding index_says
returns-in_err-m c =
    let a = c.args in
    let e = c.in_err-m.field-0.0 in
    wrote_refused (index_says a.mode a.e (length a.out.now)) (index_bytes a.mode a.e) a.out.now c.from_residual.result e
    (entry_first a.mode a.e (length a.out.now) (index_size a.mode) (refusal_number e) c.in_err-m.ensures.says (refusal-not-done e)) c.from_residual.ensures.1

pub returns-then-out-size : goal.returns-then-out-size
unfolding index_says
returns-then-out-size c =
    let a = c.args in
    wrote_refused (index_says a.mode a.e (length a.out.now)) (index_bytes a.mode a.e) a.out.now (Err Output) Output
    (entry-no-space a.mode a.e (length a.out.now) (index_size a.mode) (sym c.in_ok-m.ensures.says) (rw (size_is (goal.at.returns-then-out-size c).After-index_size-size) at c.if-out-size.true)) refl

pub returns : goal.returns
unfolding index_says
returns c =
    let a = c.args in
    let size = size_is (goal.at.returns c).After-index_size-size in
    let space = rw size at c.if-out-size.false in
    let long = length-bytes (index_size a.mode) false a.e.tile in
    done (entry-space a.mode a.e (length a.out.now) (index_size a.mode) (sym c.in_ok-m.ensures.says) space) (ap (λ (n : ℕ). written 0 n) (size ∙ sym long))
    (c.put_word.ensures ∙ rw size (sets-front a.out.now (index_bytes a.mode a.e) (rw long space)))
