-- What the calls answer where they are refused and where they are done, and what they know of a set once its checks passed.
-- Assumes nothing.
use mathlib.Core.Path.{◌≡◌, refl, sym, ap, ◌∙◌}
use mathlib.Core.Bool.{Bool, true, false, not, cond}
use mathlib.Core.List.{List, [], ◌∷◌}
use Prim.Native.Nat.{ℕ, suc, ◌+◌, ◌*◌, ◌/◌, ◌<◌, ◌≤◌, min}
use native.Mathlib.Nat.{le_trans, le-div_iff_mul-le, mul-pos, suc-mul, le_refl}
use native.Mathlib.Omega.{arith}
use lib.Dec.{ltb, eqb}
use lib.ListN.{length}
use borrow.Author.Tests.{lt-ltb, le-ltb, ltb-false, eq-eqb, ne_eqb, eqb-true, not-false, eqb-false}
use Rattle.words.specs.Answers.{◌when◌}
use Rattle.words.specs.InnerResults.{refusal_number}
use Rattle.words.specs.declared.refusal.Refusal.{Refusal}
use Rattle.words.proofs.Answers.{all-passed, not-given, when-done, when-refused}
use Rattle.words.proofs.Refusing.{refused_first}
use Rattle.words.proofs.Order.{checks-after, checks-first, checks-rest}
use Rattle.tileset.specs.Sets.{area, set_room, room_in, set_checks, set_says, held_says, look_says, answered_set, held_checks, room_under}
use Rattle.tileset.specs.Inner.{Looks}
use Rattle.tileset.specs.declared.Set.{Set}
use Rattle.tileset.specs.declared.SetAnswer.{SetAnswer}
use Rattle.tileset.proofs.Sizes.{IsSet, set-of}

-- ---- answers

abbrev pub set_answer : ℕ → Set → SetAnswer
set_answer n set = record { refusal = n; set = set }

pub refused-set : (n : ℕ) {k : ℕ} (next set : Set) → n ≡ k → (n ≡ 0 → ⊥) → set_answer n set ≡ answered_set k next set
refused-set n {k} next set e h =
    ap (λ (i : ℕ). set_answer i set) e ∙ ap (set_answer k) (sym (when-refused k next set (λ z. h (e ∙ z))))

pub done-set : {k : ℕ} (next set : Set) → k ≡ 0 → set_answer 0 next ≡ answered_set k next set
done-set {k} next set e =
    ap (λ (i : ℕ). set_answer i next) (sym e) ∙ ap (set_answer k) (sym (when-done k next set e))

-- ---- room

abbrev pub AtMost : ℕ → List ℕ → Type 0
AtMost n [] = Unit {0}
AtMost n (bound ∷ bounds) = (n ≤ bound) × AtMost n bounds

-- n is at most each of the bounds, and at most the limit if it is not 0
pub record InRoom (n limit most : ℕ) (bounds : List ℕ) : Type 0 where
  pub first : n ≤ most
  pub others : AtMost n bounds
  pub limited : (limit ≡ 0 → ⊥) → n ≤ limit

-- one more bound may be taken into the first
pub room-taken : (limit most bound : ℕ) (bounds : List ℕ) → room_under limit most (bound ∷ bounds) ≡ room_under limit (min most bound) bounds
unfolding room_under
room-taken limit most bound bounds = refl

module _ {n limit : ℕ} where
  to_room : {most : ℕ} (b : Bool) → eqb limit 0 ≡ b → n ≤ most → ((limit ≡ 0 → ⊥) → n ≤ limit) → n ≤ cond b most (min most limit)
  to_room true e first limited = first
  to_room false e first limited = omega (arith, limited (eqb-false limit 0 e))

  from-room : {most : ℕ} (b : Bool) → eqb limit 0 ≡ b → n ≤ cond b most (min most limit) → InRoom n limit most []
  from-room true e h = record { first = h; others = tt; limited = λ z. absurd (z (eqb-true limit 0 e)) }
  from-room false e h = record { first = omega arith; others = tt; limited = λ z. omega arith }

  -- what is at most all of them is at most the room
  pub room_of : {most : ℕ} (bounds : List ℕ) → InRoom n limit most bounds → n ≤ room_under limit most bounds
  unfolding room_under
  room_of [] h = to_room (eqb limit 0) refl h.first h.limited
  room_of {most = most} (bound ∷ bounds) h =
      room_of {most = min most bound} bounds (record { first = omega (arith, h.first, h.others.0); others = h.others.1; limited = h.limited })

  -- and what is at most the room is at most each of them
  pub in-room : {most : ℕ} (bounds : List ℕ) → n ≤ room_under limit most bounds → InRoom n limit most bounds
  unfolding room_under
  in-room [] h = from-room (eqb limit 0) refl h
  in-room {most = most} (bound ∷ bounds) h =
      let r = in-room {most = min most bound} bounds h in
      record { first = omega (arith, r.first); others = (omega (arith, r.first), r.others); limited = r.limited }

-- the room is at most each of its bounds, and at most the limit if it is not 0
pub room_within : (limit most : ℕ) (bounds : List ℕ) → InRoom (room_under limit most bounds) limit most bounds
room_within limit most bounds = in-room bounds (le_refl (room_under limit most bounds))

pub room_whole : (limit whole : ℕ) → set_room limit whole ≤ whole
unfolding set_room
room_whole limit whole = (room_within limit 65535 (whole ∷ [])).others.0

pub room_most : (limit whole : ℕ) → set_room limit whole ≤ 65535
unfolding set_room
room_most limit whole = (room_within limit 65535 (whole ∷ [])).first

-- a set with room has room for one tile more in its store
pub room-left : (limit len n count : ℕ) → 0 < n → count < set_room limit (len / n) → count * n + n ≤ len
room-left limit len n count z p =
    let q : suc count ≤ len / n = le_trans p (room_whole limit (len / n)) in
    omega (arith, (le-div_iff_mul-le {k = n} z).0 q, suc-mul count n)

-- ---- the checks of a set with its store

abbrev pub says : Set → ℕ
says z = set_says z.mode z.depth z.width z.height

module _ (z : Set) (len : ℕ) where
  abbrev first : List ℕ
  first = set_checks z.mode z.depth z.width z.height

  abbrev last : List ℕ
  last = 6 when ltb (room_in z len) z.stored ∷ []

  pub held_refused : (e : Refusal) → refusal_number e ≡ says z → refusal_number e ≡ held_says z len
  unfolding held_says set_says
  held_refused e given = refused_first first last e given

  pub held-6 : says z ≡ 0 → room_in z len < z.stored → 6 ≡ held_says z len
  unfolding held_says set_says
  held-6 e h = sym (checks-after first last e ∙ rw (lt-ltb (room_in z len) z.stored h))

  pub held-0 : says z ≡ 0 → z.stored ≤ room_in z len → 0 ≡ held_says z len
  unfolding held_says set_says
  held-0 e h = sym (checks-after first last e ∙ rw (le-ltb (room_in z len) z.stored h))

  pub held-says-set : held_says z len ≡ 0 → says z ≡ 0
  unfolding held_says set_says
  held-says-set e = checks-first first last e

  pub held-set : held_says z len ≡ 0 → IsSet z.mode z.depth z.width z.height
  held-set e = set-of z.mode z.depth z.width z.height (held-says-set e)

  pub held-room : held_says z len ≡ 0 → z.stored ≤ room_in z len
  unfolding held_says
  held-room e = ltb-false (room_in z len) z.stored (not-given 5 (ltb (room_in z len) z.stored) (all-passed last (checks-rest first last e) 0))

  pub look_refused : (given : ℕ) (e : Refusal) → refusal_number e ≡ held_says z len → refusal_number e ≡ look_says z len given
  unfolding look_says held_says
  look_refused given e h = refused_first (held_checks z len) (7 when not (eqb given (area z)) ∷ []) e h

  pub look-7 : (given : ℕ) → held_says z len ≡ 0 → (given ≡ area z → ⊥) → 7 ≡ look_says z len given
  unfolding look_says held_says
  look-7 given e h = sym (checks-after (held_checks z len) (7 when not (eqb given (area z)) ∷ []) e ∙ rw (ne_eqb given (area z) h))

  pub look-0 : (given : ℕ) → held_says z len ≡ 0 → given ≡ area z → 0 ≡ look_says z len given
  unfolding look_says held_says
  look-0 given e h = sym (checks-after (held_checks z len) (7 when not (eqb given (area z)) ∷ []) e ∙ rw (eq-eqb given (area z) h))

-- the checks' own lemmas
pub ruleset held_rules = (held_refused, held-6, held-0, set-of, mul-pos)

pub ruleset look_rules = (look_refused, look-7, look-0, held-set)

-- what a look-up and an add know
pub looks-of : (z : Set) (store pixels : List ℕ) → look_says z (length store) (length pixels) ≡ 0 → Looks z store pixels
unfolding look_says held_says
looks-of z store pixels e =
    let seven = 7 when not (eqb (length pixels) (area z)) ∷ [] in
    let held = checks-first (held_checks z (length store)) seven e in
    let set = held-set z (length store) held in
    let room = held-room z (length store) held in
    let given = all-passed seven (checks-rest (held_checks z (length store)) seven e) 0 in
    record {
      deep = set.deep;
      some = set.some;
      eights = omega (arith, set.across);
      tall = set.tall;
      small = set.small;
      inside = (le-div_iff_mul-le {k = area z} (mul-pos set.some set.tall)).0 (le_trans room (room_whole z.limit (length store / area z)));
      few = le_trans room (room_most z.limit (length store / area z));
      whole = eqb-true (length pixels) (area z) (not-false (eqb (length pixels) (area z)) (not-given 6 (not (eqb (length pixels) (area z))) given));
    }

pub ruleset look_up_rules = (looks-of)
