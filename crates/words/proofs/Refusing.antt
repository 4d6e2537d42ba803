-- What `?` hands on: a refusal has a number, the first check that refuses decides, and a host is told of nothing beside a refusal.
-- Assumes nothing.
use mathlib.Core.Path.{◌≡◌, refl, ap, ◌∙◌}
use mathlib.Core.List.{List, ◌++◌}
use Prim.Native.Nat.{ℕ, ◌<◌}
use native.Mathlib.Omega.{arith}
use Rattle.std.specs.Prelude.{Result, Ok, Err}
use Rattle.std.specs.Result.{IsErr, IsErrAnd}
use Rattle.words.specs.Answers.{first_applying, written, numbered, Wrote}
use Rattle.words.specs.InnerResults.{refusal_number, answered, written_by, numbered_by}
use Rattle.words.specs.declared.refusal.Refusal.{Refusal}
use Rattle.words.specs.declared.refusal.Refusal.TheVariants.{Mode, PceSprite, Depth, Size, Flips, Count, Length, Pixel, Component, Output, Room, Discarded, Settings, EntryTile, EntryPalette, EntryFlip, EntryPriority, Rows}
use Rattle.words.proofs.Answers.{either_way, refuse, refused-number}
use Rattle.words.proofs.Order.{checks-given}

-- no refusal has the number 0, which means done
pub refusal_some : (e : Refusal) → 0 < refusal_number e
refusal_some Mode = omega arith
refusal_some PceSprite = omega arith
refusal_some Depth = omega arith
refusal_some Size = omega arith
refusal_some Flips = omega arith
refusal_some Count = omega arith
refusal_some Length = omega arith
refusal_some Pixel = omega arith
refusal_some Component = omega arith
refusal_some Output = omega arith
refusal_some Room = omega arith
refusal_some Discarded = omega arith
refusal_some Settings = omega arith
refusal_some EntryTile = omega arith
refusal_some EntryPalette = omega arith
refusal_some EntryFlip = omega arith
refusal_some EntryPriority = omega arith
refusal_some Rows = omega arith

pub refusal-not-done : (e : Refusal) → refusal_number e ≡ 0 → ⊥
refusal-not-done e z = omega (arith, refusal_some e)

-- what `?` hands on of a refusal is that refusal
pub passed_on : {A : Type 0} (r : Result A Refusal) (e : Refusal) → IsErrAnd r (λ x. x ≡ e) → r ≡ Err e
passed_on (Ok x) e is = absurd is
passed_on (Err x) e is = ap Err is

pub answered-again : {A : Type 0} (e : Refusal) (r : Result A Refusal) → IsErrAnd r (λ x. x ≡ e) → answered r ≡ refusal_number e
answered-again e r is = ap answered (passed_on r e is)

-- what the first checks refuse, all do
pub refused_first : (xs ys : List ℕ) (e : Refusal) → refusal_number e ≡ first_applying xs → refusal_number e ≡ first_applying (xs ++ ys)
refused_first xs ys e given = checks-given xs ys (refusal_number e) given (refusal-not-done e)

-- a host is told of a refusal with nothing beside it
pub written-refused : (e : Refusal) → written_by (Err e) ≡ written (refusal_number e) 0
written-refused e = rw (either_way {A = ℕ} (refusal_number e) 0)

pub numbered-refused : (e : Refusal) {k : ℕ} (value : ℕ) → refusal_number e ≡ k → numbered_by (Err e) ≡ numbered k value
numbered-refused e value given =
    let bare : numbered_by (Err e) ≡ numbered (refusal_number e) 0 = rw (either_way {A = ℕ} (refusal_number e) 0) in
    bare ∙ refused-number (refusal_number e) value given (refusal-not-done e)

pub written-again : (r : Result ℕ Refusal) → IsErr r → written_by r ≡ written (answered r) 0
written-again (Ok n) h = cc
written-again (Err e) h = written-refused e

-- a refused call that writes bytes
pub wrote_refused : (k : ℕ) (bytes before : List ℕ) (r : Result ℕ Refusal) (e : Refusal) → refusal_number e ≡ k → IsErrAnd r (λ x. x ≡ e) → Wrote k bytes before (written_by r) before
wrote_refused k bytes before r e given is =
    refuse (refusal_number e) given (refusal-not-done e) (ap written_by (passed_on r e is) ∙ written-refused e) refl
