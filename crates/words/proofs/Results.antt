-- Each promise leaves one answer and one content of lent memory: stated once, over any function's `ensures` as the check reads it.
-- Assumes nothing.
use mathlib.Core.Path.{◌≡◌, sym, ◌∙◌}
use mathlib.Core.List.{List}
use Prim.Native.Nat.{ℕ}
use contract.Lifetimes.{Lfts}
use denote.Triple.Clauses.{Ended, AtExit}
use denote.Triple.Entry.{Args, Res}
use Rattle.words.specs.Answers.{Wrote}
use Rattle.words.specs.declared.Written.{Written}

-- a promise of a function: what it says of the arguments, the result and the parameters at exit
abbrev pub Promise : Ended → Type 1
Promise f = (κs : Lfts f.signature.lifetimes) → Args f.signature κs → Res f.signature κs → AtExit f κs → Type 0

module _ (f : Ended) (promise : Promise f) where
  -- any two results that meet the promise are equal
  abbrev pub OneResult : Type 0
  OneResult =
      (κs : Lfts f.signature.lifetimes) (a : Args f.signature κs) (x y : Res f.signature κs) (s t : AtExit f κs)
      → promise κs a x s → promise κs a y t → x ≡ y

  -- and so is what `lent` reads of the parameters at exit: a record, or the bytes of a slice
  abbrev pub OneLent : {A : Type 0} → ((κs : Lfts f.signature.lifetimes) → AtExit f κs → A) → Type 0
  OneLent lent =
      (κs : Lfts f.signature.lifetimes) (a : Args f.signature κs) (x y : Res f.signature κs) (s t : AtExit f κs)
      → promise κs a x s → promise κs a y t → lent κs s ≡ lent κs t

  abbrev pub OneContent : ((κs : Lfts f.signature.lifetimes) → AtExit f κs → List ℕ) → Type 0
  OneContent lent = OneLent lent

module _ {k : ℕ} {bytes before : List ℕ} {r s : Written} {after final : List ℕ} (p : Wrote k bytes before r after) (q : Wrote k bytes before s final) where
  pub one_answer : r ≡ s
  one_answer = p.answer ∙ sym q.answer

  pub one-content : after ≡ final
  one-content = p.lent ∙ sym q.lent
