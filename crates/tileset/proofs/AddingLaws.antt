-- The two ways an add goes once its first checks passed: the tile is stored, or it is discarded.
-- Assumes nothing.
use mathlib.Core.Path.{◌≡◌, refl, sym, ap, ◌∙◌}
use mathlib.Core.Bool.{Bool, true, false, not, cond, ◌&&◌, and-false}
use mathlib.Core.List.{List, [], ◌∷◌, ◌++◌}
use Rattle.std.specs.Prelude.{Result}
use Rattle.std.specs.Result.{IsErrAnd}
use Prim.Native.Nat.{ℕ, ◌<◌, ◌≤◌}
use lib.ListN.{length}
use borrow.Author.Tests.{le-leb, lt-leb}
use Rattle.words.specs.Answers.{◌when◌, first_applying}
use Rattle.words.proofs.Answers.{either_way, when-refused}
use Rattle.words.proofs.Order.{checks-after, checks-first, checks-given}
use Rattle.words.specs.InnerResults.{refusal_number}
use Rattle.words.specs.declared.refusal.Refusal.{Refusal}
use Rattle.tileset.specs.Sets.{room_in, look_checks, look_says}
use Rattle.tileset.specs.Finding.{found_in, is_found}
use Rattle.tileset.specs.Adding.{discards, no_room, counter_full, end_checks, one_stored, one_discarded, at_end, added_by, store_by}
use Rattle.tileset.specs.Adding.{add_says, added, store_with, Adds, AddsTile}
use Rattle.tileset.specs.Inner.{AddsBy, Stores, discard_answer}
use Rattle.tileset.specs.InnerResults.{set_answer_by}
use Rattle.tileset.specs.declared.Set.{Set}
use Rattle.tileset.specs.declared.SetAnswer.{SetAnswer}
use Rattle.tileset.specs.declared.Found.{Found}
use Rattle.tileset.specs.declared.Found.TheVariants.{Nothing}
use Rattle.words.proofs.Refusing.{refusal-not-done, passed_on}
use Rattle.tileset.proofs.Says.{refused-set, looks-of}

-- one of the two last checks counts
one_end : (d a b : Bool) → first_applying (12 when (not d && a) ∷ 13 when (d && b) ∷ []) ≡ cond d (13 when b) (12 when a)
one_end true a true = refl
one_end true a false = refl
one_end false true b = refl
one_end false false b = refl

-- the promise, over equal parts
adds-as : {n k : ℕ} {z next done : Set} {s with put : List ℕ} {r : SetAnswer} {after : List ℕ}
    → n ≡ k → next ≡ done → with ≡ put → Adds k z done s put r after → Adds n z next s with r after
adds-as e f g a = rw (e, f, g) a

-- ---- over any found place, and any first checks and room

module _ (z : Set) (x : Found) where
  pub discards-off : z.discarding ≡ false → discards z x ≡ false
  discards-off e = ap (λ (b : Bool). b && is_found x) e

  pub discards-new : x ≡ Nothing → discards z x ≡ false
  discards-new e = ap (λ (y : Found). discards z y) e ∙ and-false z.discarding

  pub discards-found : z.discarding ≡ true → is_found x ≡ true → discards z x ≡ true
  discards-found e f = ap (λ (b : Bool). b && is_found x) e ∙ f

  module _ (d : Bool) (e : discards z x ≡ d) where
    pub ends_by : (firsts : List ℕ) (room : ℕ) → first_applying firsts ≡ 0
        → first_applying (firsts ++ end_checks z x room) ≡ cond d (13 when counter_full z) (12 when no_room z room)
    ends_by firsts room fine =
        checks-after firsts (end_checks z x room) fine ∙ one_end (discards z x) (no_room z room) (counter_full z)
        ∙ ap (λ (b : Bool). cond b (13 when counter_full z) (12 when no_room z room)) e

    pub added-by : added_by z x ≡ cond d (one_discarded z) (one_stored z)
    added-by = ap (λ (b : Bool). cond b (one_discarded z) (one_stored z)) e

    pub store_by_lem : (s p : List ℕ) → store_by z x s p ≡ cond d s (at_end z s p)
    store_by_lem s p = ap (λ (b : Bool). cond b s (at_end z s p)) e

module _ (firsts : List ℕ) (z : Set) (x : Found) (room : ℕ) (s p : List ℕ) {r : SetAnswer} {after : List ℕ} where
  pub refuse-by : (n : ℕ) → n ≡ first_applying firsts → (n ≡ 0 → ⊥) → r ≡ record { refusal = n; set = z } → after ≡ s → AddsBy firsts z x room s p r after
  refuse-by n e h a l =
      let due = checks-given firsts (end_checks z x room) n e h in
      record {
        answer = a ∙ refused-set n (added_by z x) z due h;
        lent = l ∙ sym (when-refused (first_applying (firsts ++ end_checks z x room)) (store_by z x s p) s (λ q. h (due ∙ q)));
      }

  pub stored-by : first_applying firsts ≡ 0 → discards z x ≡ false → Stores z room s p r after → AddsBy firsts z x room s p r after
  stored-by fine e k = adds-as (ends_by z x false e firsts room fine) (added-by z x false e) (store_by_lem z x false e s p) k

  pub discarded-by : first_applying firsts ≡ 0 → discards z x ≡ true → r ≡ discard_answer z → after ≡ s → AddsBy firsts z x room s p r after
  discarded-by fine e a l =
      adds-as (ends_by z x true e firsts room fine) (added-by z x true e) (store_by_lem z x true e s p)
      (record { answer = a; lent = l ∙ sym (either_way (13 when counter_full z) s) })

-- a tile that is to be stored
module _ (z : Set) (room : ℕ) (s p : List ℕ) {r : SetAnswer} {after : List ℕ} where
  pub store-full : room ≤ z.stored → r ≡ record { refusal = 12; set = z } → after ≡ s → Stores z room s p r after
  store-full h a l = rw (le-leb room z.stored h) (record { answer = a; lent = l })

  pub store-done : z.stored < room → r ≡ record { refusal = 0; set = one_stored z } → after ≡ at_end z s p → Stores z room s p r after
  store-done h a l = rw (lt-leb room z.stored h) (record { answer = a; lent = l })

-- ---- over what a look-up finds in the set, and the set's room

module _ (z : Set) (s p : List ℕ) where
  abbrev looks : List ℕ
  looks = look_checks z (length s) (length p)

  abbrev room : ℕ
  room = room_in z (length s)

  abbrev found : Found
  found = found_in z s p

  pub add-looks : add_says z s p ≡ 0 → look_says z (length s) (length p) ≡ 0
  unfolding add_says look_says
  add-looks done = checks-first looks (end_checks z found room) done

  module _ (d : Bool) (e : discards z found ≡ d) where
    pub add-says : look_says z (length s) (length p) ≡ 0 → add_says z s p ≡ cond d (13 when counter_full z) (12 when no_room z room)
    unfolding add_says look_says
    add-says fine = ends_by z found d e looks room fine

    pub added_is : added z s p ≡ cond d (one_discarded z) (one_stored z)
    unfolding added
    added_is = added-by z found d e

    pub with-is : store_with z s p ≡ cond d s (at_end z s p)
    unfolding store_with
    with-is = store_by_lem z found d e s p

  pub refuse-add : (r : Result Set Refusal) (e : Refusal) → refusal_number e ≡ look_says z (length s) (length p) → IsErrAnd r (λ x. x ≡ e)
      → AddsTile z s p (set_answer_by z r) s
  unfolding add_says look_says added store_with
  refuse-add r e given is =
      refuse-by looks z found room s p (refusal_number e) given (refusal-not-done e)
      (ap (set_answer_by z) (passed_on r e is)) refl

  module _ {r : SetAnswer} {after : List ℕ} where
    pub store-add : look_says z (length s) (length p) ≡ 0 → discards z found ≡ false → Stores z room s p r after → AddsTile z s p r after
    unfolding add_says look_says added store_with
    store-add = stored-by looks z found room s p

    pub discard-add : look_says z (length s) (length p) ≡ 0 → discards z found ≡ true → r ≡ discard_answer z → after ≡ s → AddsTile z s p r after
    unfolding add_says look_says added store_with
    discard-add = discarded-by looks z found room s p

pub ruleset add_rules = (refuse-add, store-add, discard-add, looks-of, discards-off, discards-new, discards-found)
