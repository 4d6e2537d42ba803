-- What a title's calls answer where they are refused and where they are done, and what they know of a title once its checks passed.
-- Assumes nothing.
use mathlib.Core.Path.{◌≡◌, sym, ap, ◌∙◌}
use mathlib.Core.Bool.{not}
use mathlib.Core.List.{List, [], ◌∷◌}
use Prim.Native.Nat.{ℕ, ◌+◌, ◌*◌, ◌/◌, ◌<◌, ◌≤◌}
use native.Mathlib.Nat.{le_trans, le-div_iff_mul-le, div-lt_iff_lt-mul, mul-pos}
use lib.Dec.{ltb, eqb}
use lib.ListN.{length, get_or}
use borrow.Author.Tests.{lt-ltb, le-ltb, ltb-false, eq-eqb, ne_eqb, eqb-true, not-false}
use Rattle.words.specs.Answers.{◌when◌}
use Rattle.words.specs.InnerResults.{refusal_number}
use Rattle.words.specs.declared.refusal.Refusal.{Refusal}
use Rattle.words.proofs.Answers.{all-passed, not-given, when-done, when-refused}
use Rattle.words.proofs.Refusing.{refusal-not-done}
use Rattle.words.proofs.Order.{checks-after, checks-first, checks-given, checks-rest}
use Rattle.tileset.specs.Sets.{area, held_checks, held_says, look_says}
use Rattle.tileset.specs.declared.Set.{Set}
use Rattle.tileset.specs.declared.Found.{Found}
use Rattle.tileset.proofs.Says.{held-set, held-room, room_most, look-0, looks-of}
use Rattle.title.specs.Titles.{title_says, no_held, held_of, held_by}
use Rattle.title.specs.Inner.{Titled}

-- ---- answers

pub refused-held : (n : ℕ) {k : ℕ} (z : Set) (count : ℕ) (found : Found) → n ≡ k → (n ≡ 0 → ⊥) → no_held n ≡ held_by k z count found
refused-held n {k} z count found e h = ap no_held e ∙ sym (when-refused k (held_of z count found) (no_held k) (λ q. h (e ∙ q)))

pub done_held : {k : ℕ} (z : Set) (count : ℕ) (found : Found) → k ≡ 0 → held_of z count found ≡ held_by k z count found
done_held {k} z count found e = sym (when-done k (held_of z count found) (no_held k) e)

-- ---- the checks

module _ (z : Set) (count shared len given : ℕ) where
  -- after those of the set with its own store
  abbrev others : List ℕ
  others = 6 when ltb (shared / area z) count ∷ 6 when ltb 65535 (count + z.stored) ∷ 7 when not (eqb given (area z)) ∷ []

  pub title-first : (n : ℕ) → n ≡ held_says z len → (n ≡ 0 → ⊥) → n ≡ title_says z count shared len given
  unfolding title_says held_says
  title-first n e h = checks-given (held_checks z len) others n e h

  pub title_refused : (e : Refusal) → refusal_number e ≡ held_says z len → refusal_number e ≡ title_says z count shared len given
  title_refused e h = title-first (refusal_number e) h (refusal-not-done e)

  module _ (held : held_says z len ≡ 0) where
    pub common-6 : shared / area z < count → 6 ≡ title_says z count shared len given
    unfolding title_says held_says
    common-6 h = sym (checks-after (held_checks z len) others held ∙ rw (lt-ltb (shared / area z) count h))

    module _ (stands : count ≤ shared / area z) where
      pub counts-6 : 65535 < count + z.stored → 6 ≡ title_says z count shared len given
      unfolding title_says held_says
      counts-6 h =
          sym (checks-after (held_checks z len) others held ∙ rw (le-ltb (shared / area z) count stands, lt-ltb 65535 (count + z.stored) h))

      module _ (few : count + z.stored ≤ 65535) where
        pub title-7 : (given ≡ area z → ⊥) → 7 ≡ title_says z count shared len given
        unfolding title_says held_says
        title-7 h =
            sym
            (checks-after (held_checks z len) others held
            ∙ rw (le-ltb (shared / area z) count stands, le-ltb 65535 (count + z.stored) few, ne_eqb given (area z) h))

        pub title-0 : given ≡ area z → 0 ≡ title_says z count shared len given
        unfolding title_says held_says
        title-0 h =
            sym
            (checks-after (held_checks z len) others held
            ∙ rw (le-ltb (shared / area z) count stands, le-ltb 65535 (count + z.stored) few, eq-eqb given (area z) h))

  module _ (fine : title_says z count shared len given ≡ 0) where
    pub title-held : held_says z len ≡ 0
    unfolding title_says held_says
    title-held = checks-first (held_checks z len) others fine

    passed : (k : ℕ) → get_or others k 0 ≡ 0
    unfolding title_says
    passed k = all-passed others (checks-rest (held_checks z len) others fine) k

    pub title-stands : count ≤ shared / area z
    title-stands = ltb-false (shared / area z) count (not-given 5 (ltb (shared / area z) count) (passed 0))

    pub title-few : count + z.stored ≤ 65535
    title-few = ltb-false 65535 (count + z.stored) (not-given 5 (ltb 65535 (count + z.stored)) (passed 1))

    pub title-looks : look_says z len given ≡ 0
    title-looks =
        sym
        (look-0 z len given title-held
        (eqb-true given (area z) (not-false (eqb given (area z)) (not-given 6 (not (eqb given (area z))) (passed 2)))))

-- what a look-up and an add know
pub titled-of : (z : Set) (count : ℕ) (common store pixels : List ℕ) → title_says z count (length common) (length store) (length pixels) ≡ 0
    → Titled z count common store pixels
titled-of z count common store pixels fine =
    let looks = looks-of z store pixels (title-looks z count (length common) (length store) (length pixels) fine) in
    record {
      looks = looks;
      inside =
          (le-div_iff_mul-le {k = area z} (mul-pos looks.some looks.tall)).0
          (title-stands z count (length common) (length store) (length pixels) fine);
      few = title-few z count (length common) (length store) (length pixels) fine;
    }

-- a store has so many tiles, or has not
module _ (z : Set) (len : ℕ) (held : held_says z len ≡ 0) (count shared : ℕ) where
  pub common_short : shared < count * area z → shared / area z < count
  common_short =
      let s = held-set z len held in
      (div-lt_iff_lt-mul {k = area z} (mul-pos s.some s.tall)).1

  pub common_stands : count * area z ≤ shared → count ≤ shared / area z
  common_stands =
      let s = held-set z len held in
      (le-div_iff_mul-le {k = area z} (mul-pos s.some s.tall)).1

  pub stored_few : z.stored ≤ 65535
  stored_few = le_trans (held-room z len held) (room_most z.limit (len / area z))

pub ruleset title_rules = (title_refused, common-6, counts-6, title-7, title-0, common_short, common_stands, stored_few, held-set)
