-- The places that are computed from the fields of document 01 are those of its words: values at their places make the word, and are found there.
-- Assumes nothing.
use mathlib.Core.Path.{◌≡◌, refl, sym, ap, ◌∙◌, subst}
use mathlib.Core.Bool.{Bool, true, false, not, cond, ◌&&◌, ◌||◌}
use mathlib.Core.List.{[], ◌∷◌}
use Prim.Native.Nat.{ℕ, ◌+◌, ◌*◌, ◌^◌, ◌<◌, ◌≤◌}
use native.Mathlib.Nat.{div-one}
use native.Mathlib.Omega.{arith}
use lib.Dec.{T, eqb, leb, ltb, leb→le, ltb→lt, eqb→eq, lit<}
use lib.ListN.{get_or}
use borrow.Author.Tests.{le-ltb}
use Rattle.words.specs.Fields.{join, split}
use Rattle.words.specs.Inner.{bits_for, are_fields, start_of, all}
use Rattle.words.proofs.Fields.{Held}
use Rattle.words.proofs.Loops.{all-at, both_left, both_right}
use Rattle.words.proofs.Starts.{once, once-found}
use Rattle.mode.specs.Table.{row}
use Rattle.mode.proofs.ByMode.{every-mode}
use Rattle.color.specs.Color.{Coloring, coloring, color_with, four_with}
use Rattle.color.specs.Inner.{word_with, value_at, color_from, four_from}
use Rattle.color.specs.Channel.{bits_up_to}
use Rattle.color.specs.declared.color_places.ColorPlaces.{ColorPlaces}

-- what every mode's words have: one byte or two, components of at most five bits up to the top, and no place above the word
module _ (m : ℕ) (h : m < 16) where
  bits : ℕ → ℕ
  bits k = bits_for 0 (coloring k).fields

  under : (f : ℕ → ℕ) (n : ℕ) → T (all 16 (λ k. leb (f k) n)) → f m ≤ n
  under f n t = leb→le (f m) n (all-at 16 (λ k. leb (f k) n) t m h)

  equal : (f g : ℕ → ℕ) → T (all 16 (λ k. eqb (f k) (g k))) → f m ≡ g m
  equal f g t = eqb→eq (f m) (g m) (all-at 16 (λ k. eqb (f k) (g k)) t m h)

  pub some-bytes : (0 < (coloring m).size) × ((coloring m).size ≤ 2)
  unfolding coloring
  some-bytes = (ltb→lt 0 (coloring m).size (all-at 16 (λ k. ltb 0 (coloring k).size) tt m h), under (λ k. (coloring k).size) 2 tt)

  pub few-bits : ((row m).top ≤ 31) × (bits_for 0 (coloring m).fields ≤ 5) × (bits_for 0 (coloring m).fields ≡ bits_up_to (row m).top) × (2 ^ bits_for 0 (coloring m).fields ≡ (row m).top + 1)
  unfolding coloring row bits
  few-bits =
      (under (λ k. (row k).top) 31 tt, under bits 5 tt, equal bits (λ k. bits_up_to (row k).top) tt, equal (λ k. 2 ^ bits k) (λ k. (row k).top + 1) tt)

  pub start-inside : (i : ℕ) → i < 4 → start_of 0 i (coloring m).fields ≤ 16
  unfolding coloring
  start-inside i lt =
      leb→le (start_of 0 i (coloring m).fields) 16
      (all-at 4 (λ j. leb (start_of 0 j (coloring m).fields) 16) (all-at 16 (λ k. all 4 (λ j. leb (start_of 0 j (coloring k).fields) 16)) tt m h) i lt)

-- the mode of places is not to be refused
pub no-first : (l : ColorPlaces) → ltb 15 l.mode ≡ false
no-first l =
    let le : l.mode ≤ 15 = omega (arith, l.is_mode) in
    le-ltb 15 l.mode le

-- values at their places make the word that the fields make
module _ (a b c d : ℕ) where
  pub record Small (m : ℕ) : Type 0 where
    pub first : a < 2 ^ bits_for 0 (coloring m).fields
    pub second : b < 2 ^ bits_for 1 (coloring m).fields
    pub third : c < 2 ^ bits_for 2 (coloring m).fields
    pub fourth : d < 2 ^ bits_for 3 (coloring m).fields

  -- the sum that the code makes, at the places of the mode's fields
  abbrev summed : ℕ → ℕ
  summed m =
      let fs = (coloring m).fields in
      a * 2 ^ start_of 0 0 fs + b * 2 ^ start_of 0 1 fs + c * 2 ^ start_of 0 2 fs + d * 2 ^ start_of 0 3 fs

  abbrev Joined : ℕ → Type 0
  Joined m = Small m → summed m ≡ join (coloring m).fields (a ∷ b ∷ c ∷ d ∷ 0 ∷ 0 ∷ [])

  joins : (m : ℕ) → m < 16 → Joined m
  unfolding coloring
  joins = every-mode Joined (omega arith)

pub joined : (l : ColorPlaces) (a b c d : ℕ) → Held (coloring l.mode).fields (a ∷ b ∷ c ∷ d ∷ 0 ∷ 0 ∷ []) → word_with l a b c d ≡ join (coloring l.mode).fields (a ∷ b ∷ c ∷ d ∷ 0 ∷ 0 ∷ [])
unfolding Held
joined l a b c d held =
    rw (l.first_is, l.second_is, l.third_is, l.fourth_is)
    (joins a b c d l.mode l.is_mode (record { first = held 0 (lit< tt); second = held 1 (lit< tt); third = held 2 (lit< tt); fourth = held 3 (lit< tt) }))

-- which values a mode's words have: three components, one gray, or four
abbrev pub has : Coloring → ℕ → Bool
has c k = cond c.four (ltb k 4) (cond c.gray (ltb k 1) (ltb k 3))

-- each has one field, and the bits of the first
abbrev is_at : Coloring → ℕ → Bool
is_at c k = once k c.fields && (not (has c k) || eqb (bits_for k c.fields) (bits_for 0 c.fields))

implied : (a b : Bool) → T (not a || b) → a ≡ true → T b
implied true b t e = t
implied false b t e = absurd (subst T (sym e) tt)

module _ (m : ℕ) (h : m < 16) (w : ℕ) where
  fields : T (are_fields (coloring m).fields)
  unfolding coloring
  fields = all-at 16 (λ k. are_fields (coloring k).fields) tt m h

  value_found : (k : ℕ) → k < 4 → has (coloring m) k ≡ true → get_or (split (coloring m).fields w) k 0 ≡ value_at w (start_of 0 k (coloring m).fields) (bits_for 0 (coloring m).fields)
  unfolding coloring
  value_found k lt e =
      let c = coloring m in
      let here : T (is_at c k) = all-at 4 (is_at c) (all-at 16 (λ i. all 4 (is_at (coloring i))) tt m h) k lt in
      let same : T (eqb (bits_for k c.fields) (bits_for 0 c.fields)) = implied (has c k) _ (both_right (once k c.fields) _ here) e in
      rw div-one at (once-found k (omega arith) c.fields fields 0 w (both_left (once k c.fields) _ here))
      ∙ ap (λ (n : ℕ). value_at w (start_of 0 k c.fields) n) (eqb→eq (bits_for k c.fields) (bits_for 0 c.fields) same)

module _ (l : ColorPlaces) (w : ℕ) where
  value : (k : ℕ) → k < 4 → has (coloring l.mode) k ≡ true → get_or (split (coloring l.mode).fields w) k 0 ≡ value_at w (start_of 0 k (coloring l.mode).fields) l.bits
  value k lt e = rw l.bits_are (value_found l.mode l.is_mode w k lt e)

  -- the colour of a word
  color-case : (g f : Bool) → (coloring l.mode).gray ≡ g → (coloring l.mode).four ≡ f → color_with l.mode (split (coloring l.mode).fields w) ≡ color_from l w
  color-case true true e f = rw (l.gray_is, l.top_is, l.first_is) (rw (e, value 0 (omega arith) (rw f)))
  color-case true false e f = rw (l.gray_is, l.top_is, l.first_is) (rw (e, value 0 (omega arith) (rw (f, e))))
  color-case false true e f =
      rw (l.gray_is, l.first_is, l.second_is, l.third_is) (rw (e, value 0 (omega arith) (rw f), value 1 (omega arith) (rw f), value 2 (omega arith) (rw f)))
  color-case false false e f =
      rw (l.gray_is, l.first_is, l.second_is, l.third_is) (rw (e, value 0 (omega arith) (rw (f, e)), value 1 (omega arith) (rw (f, e)), value 2 (omega arith) (rw (f, e))))

  pub found : color_with l.mode (split (coloring l.mode).fields w) ≡ color_from l w
  found = color-case (coloring l.mode).gray (coloring l.mode).four refl refl

  -- and its four grays
  pub found-four : (coloring l.mode).four ≡ true → four_with l.mode (split (coloring l.mode).fields w) ≡ four_from l w
  found-four f =
      rw (l.top_is, l.first_is, l.second_is, l.third_is, l.fourth_is) (rw (value 0 (omega arith) (rw f), value 1 (omega arith) (rw f), value 2 (omega arith) (rw f), value 3 (omega arith) (rw f)))
