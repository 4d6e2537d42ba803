-- An add to a title is an add to its set, with what is found among the title's tiles, and the room that its counts leave.
-- Assumes nothing.
use mathlib.Core.Path.{◌≡◌, refl, sym, ap, ◌∙◌}
use mathlib.Core.Bool.{Bool, true, false, ◌||◌, or-false}
use mathlib.Core.List.{List}
use Prim.Native.Nat.{ℕ, ◌+◌, ◌-◌, ◌<◌, min}
use native.Mathlib.Omega.{arith}
use lib.Dec.{leb}
use lib.ListN.{length}
use borrow.Author.Tests.{le-leb, lt-leb, leb-true, leb-false}
use Rattle.std.specs.Prelude.{Result}
use Rattle.std.specs.Result.{IsErrAnd}
use Rattle.words.specs.InnerResults.{refusal_number}
use Rattle.words.specs.declared.refusal.Refusal.{Refusal}
use Rattle.words.proofs.Answers.{not-given}
use Rattle.words.proofs.Refusing.{refusal-not-done, passed_on}
use Rattle.words.proofs.Order.{checks-first}
use Rattle.tileset.specs.Sets.{room_in}
use Rattle.tileset.specs.Adding.{discards, no_room, end_checks}
use Rattle.tileset.specs.Inner.{Stores, discard_answer}
use Rattle.tileset.specs.InnerResults.{set_answer_by}
use Rattle.tileset.specs.declared.Set.{Set}
use Rattle.tileset.specs.declared.SetAnswer.{SetAnswer}
use Rattle.tileset.specs.declared.Found.{Found}
use Rattle.tileset.proofs.AddingLaws.{discards-off, discards-new, discards-found, refuse-by, stored-by, discarded-by, ends_by, store-full}
use Rattle.title.proofs.Says.{titled-of}
use Rattle.title.specs.Titles.{title_found, title_checks, title_says, title_room, title_add_says, AddsToTitle}

-- ---- the room

-- "12 also when one more tile would pass it": the room is the set's, and what the counts leave
full_by : (a b n : ℕ) (c d : Bool) → leb a n ≡ c → leb b n ≡ d → leb (min a b) n ≡ (c || d)
full_by a b n true d e f = le-leb (min a b) n (omega (arith, leb-true a n e))
full_by a b n false true e f = le-leb (min a b) n (omega (arith, leb-true b n f))
full_by a b n false false e f = lt-leb (min a b) n (omega (arith, leb-false a n e, leb-false b n f))

counts-by : (count n : ℕ) (c : Bool) → leb 65535 (count + n) ≡ c → leb (65535 - count) n ≡ c
counts-by count n true e = le-leb (65535 - count) n (omega (arith, leb-true 65535 (count + n) e))
counts-by count n false e = lt-leb (65535 - count) n (omega (arith, leb-false 65535 (count + n) e))

pub title-full : (z : Set) (count len : ℕ) → no_room z (title_room z count len) ≡ (no_room z (room_in z len) || leb 65535 (count + z.stored))
title-full z count len = full_by (room_in z len) (65535 - count) z.stored _ _ refl (counts-by count z.stored _ refl)

module _ (z : Set) (count : ℕ) (store pixels : List ℕ) {r : SetAnswer} {after : List ℕ} where
  pub counts-full : count + z.stored ≡ 65535 → r ≡ record { refusal = 12; set = z } → after ≡ store → Stores z (title_room z count (length store)) store pixels r after
  counts-full e a l = store-full z (title_room z count (length store)) store pixels (omega arith) a l

  pub counts-left : count + z.stored < 65535 → Stores z (room_in z (length store)) store pixels r after → Stores z (title_room z count (length store)) store pixels r after
  counts-left lt s =
      rw (title-full z count (length store), lt-leb 65535 (count + z.stored) lt, or-false (no_room z (room_in z (length store)))) s

-- ---- the add

module _ (z : Set) (count : ℕ) (common store pixels : List ℕ) where
  abbrev firsts : List ℕ
  firsts = title_checks z count (length common) (length store) (length pixels)

  abbrev found : Found
  found = title_found z count common store pixels

  abbrev room : ℕ
  room = title_room z count (length store)

  pub add-titled : title_add_says z count common store pixels ≡ 0 → title_says z count (length common) (length store) (length pixels) ≡ 0
  unfolding title_add_says title_says
  add-titled done = checks-first firsts (end_checks z found room) done

  -- a tile that is stored has room in the own store
  pub add-room : title_add_says z count common store pixels ≡ 0 → discards z found ≡ false → z.stored < room_in z (length store)
  unfolding title_add_says title_says
  add-room done e =
      let some = leb-false room z.stored (not-given 11 (no_room z room) (sym (ends_by z found false e firsts room (add-titled done)) ∙ done)) in
      omega (arith, some)

  module _ {r : SetAnswer} {after : List ℕ} where
    pub refuse-title : (n : ℕ) → n ≡ title_says z count (length common) (length store) (length pixels) → (n ≡ 0 → ⊥)
        → r ≡ record { refusal = n; set = z } → after ≡ store → AddsToTitle z count common store pixels r after
    unfolding title_add_says title_says
    refuse-title = refuse-by firsts z found room store pixels

    pub store-title : title_says z count (length common) (length store) (length pixels) ≡ 0 → discards z found ≡ false
        → Stores z room store pixels r after → AddsToTitle z count common store pixels r after
    unfolding title_add_says title_says
    store-title = stored-by firsts z found room store pixels

    pub discard-title : title_says z count (length common) (length store) (length pixels) ≡ 0 → discards z found ≡ true
        → r ≡ discard_answer z → after ≡ store → AddsToTitle z count common store pixels r after
    unfolding title_add_says title_says
    discard-title = discarded-by firsts z found room store pixels

  pub title_passed_on : (r : Result Set Refusal) (e : Refusal) → refusal_number e ≡ title_says z count (length common) (length store) (length pixels)
      → IsErrAnd r (λ x. x ≡ e) → AddsToTitle z count common store pixels (set_answer_by z r) store
  title_passed_on r e given is =
      refuse-title (refusal_number e) given (refusal-not-done e) (ap (set_answer_by z) (passed_on r e is)) refl

pub ruleset add_rules = (title_passed_on, store-title, discard-title, titled-of, discards-off, discards-new, discards-found)
