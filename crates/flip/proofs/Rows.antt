-- Comparing the tile at a place of a store, under a flip, with a tile: row by row.
-- Assumes nothing.
use mathlib.Core.Path.{◌≡◌, refl, sym, ap, ◌∙◌, subst}
use mathlib.Core.Bool.{Bool, true, false}
use mathlib.Core.List.{List, [], ◌∷◌}
use Prim.Native.Nat.{ℕ, ◌+◌, ◌*◌, ◌/◌, ◌%◌, ◌<◌, ◌≤◌}
use native.Mathlib.Nat.{div-add-mod', mul-le-mul_right, suc-mul, add_assoc, mul_comm}
use native.Mathlib.Omega.{arith}
use lib.Dec.{T}
use lib.ListN.{get_or, take, drop}
use lib.Seq.{get_or-take, get_or-drop}
use borrow.Author.Tests.{eq-eqb}
use Rattle.words.specs.Bytes.{same}
use Rattle.words.proofs.Bytes.{same-eq}
use Rattle.flip.specs.Flips.{turned, flip_at, flipped}
use Rattle.flip.specs.Inner.{RowAs, Compares}
use Rattle.flip.specs.declared.Flip.{Flip}
use Rattle.flip.proofs.Group.{row_lt, column-lt, place-lt, place-row, place-column, flip_at-lt, flipped-at, is-flipped}

-- ---- the test of two lists, and their equality

same_refl : (a : List ℕ) → same a a ≡ true
same_refl [] = refl
same_refl (x ∷ xs) = rw (eq-eqb x x refl) (same_refl xs)

pub eq-same : (a b : List ℕ) → a ≡ b → same a b ≡ true
eq-same a b e = rw e (same_refl b)

pub true_same : (a b : List ℕ) → same a b ≡ true → a ≡ b
true_same a b e = same-eq a b (subst T (sym e) tt)

pub false-or : (b : Bool) → (b ≡ true → ⊥) → b ≡ false
false-or true h = absurd (h refl)
false-or false h = refl

pub ne_same : (a b : List ℕ) → (a ≡ b → ⊥) → same a b ≡ false
ne_same a b h = false-or (same a b) (λ e. h (true_same a b e))

-- ---- a row of the tile is inside

pub row_inside : (w h y : ℕ) → y < h → y * w + w ≤ w * h
row_inside w h y p = omega (arith, mul-le-mul_right w p, suc-mul y w, mul_comm w h)

module _ (f : Flip) (w h at : ℕ) (store tile : List ℕ) (c : Compares store at tile w h) where
  abbrev there : List ℕ
  there = take (w * h) (drop at store)

  abbrev row_from : ℕ → ℕ
  row_from y = at + turned f.v h y * w

  there-at : (i : ℕ) → i < w * h → get_or there (flip_at f w h i) 0 ≡ get_or store (at + flip_at f w h i) 0
  there-at i p = get_or-take (w * h) (drop at store) (flip_at f w h i) 0 (flip_at-lt w h i p c.some f) ∙ get_or-drop at store (flip_at f w h i) 0

  row-place : (y x : ℕ) → x < w → row_from y + turned f.h w x ≡ at + flip_at f w h (y * w + x)
  unfolding flip_at
  row-place y x p = rw (place-row w y x p, place-column w y x p) (add_assoc at (turned f.v h y * w) (turned f.h w x))

  pub rows_agree : ((y : ℕ) → y < h → RowAs f.h store (row_from y) tile (y * w) w true) → same (flipped f w h there) tile ≡ true
  rows_agree e =
      eq-same (flipped f w h there) tile
      (is-flipped f w h there tile c.whole (λ i p.
      let y : i / w < h = row_lt w h i p c.some in
      let x : i % w < w = column-lt w h i p c.some in
      there-at i p
      ∙ ap (λ (k : ℕ). get_or store (at + flip_at f w h k) 0) (sym (div-add-mod' i w))
      ∙ ap (λ (k : ℕ). get_or store k 0) (sym (row-place (i / w) (i % w) x))
      ∙ e (i / w) y (i % w) x
      ∙ ap (λ (k : ℕ). get_or tile k 0) (div-add-mod' i w)))

  pub row-differs : (y : ℕ) → y < h → RowAs f.h store (row_from y) tile (y * w) w false → same (flipped f w h there) tile ≡ false
  row-differs y p d =
      ne_same (flipped f w h there) tile
      (λ e. d (λ x q.
      let i = y * w + x in
      let r : i < w * h = place-lt w h y x p q in
      ap (λ (k : ℕ). get_or store k 0) (row-place y x q)
      ∙ sym (there-at i r)
      ∙ sym (flipped-at f w h there i r)
      ∙ ap (λ (l : List ℕ). get_or l i 0) e))

-- what comparing a row told, at the place and for the answer that are meant
pub row_told : (across : Bool) (store tile : List ℕ) (at r k i w : ℕ) (b c : Bool) → r ≡ k → b ≡ c → RowAs across store (at + r * w) tile i w b → RowAs across store (at + k * w) tile i w c
row_told across store tile at r k i w b c e f g =
    subst (λ (n : ℕ). RowAs across store (at + n * w) tile i w c) e (subst (RowAs across store (at + r * w) tile i w) f g)
