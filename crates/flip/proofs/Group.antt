-- The laws of flips: composing two is xor on each, so each undoes itself, h then v is hv, and the order does not matter.
-- Assumes nothing.
use mathlib.Core.Path.{◌≡◌, refl, sym, ap, ap₂, ◌∙◌}
use mathlib.Core.Bool.{Bool, true, false, xor}
use mathlib.Core.List.{List, [], ◌∷◌}
use Prim.Native.Nat.{ℕ, ◌+◌, ◌*◌, ◌/◌, ◌%◌, ◌<◌}
use native.Mathlib.Nat.{mod-lt, div-lt_iff_lt-mul, mul-add-div_right, mul-add-mod_self_right, div-eq_of_lt, mod-eq_of_lt, add-zero, mul_comm, div-add-mod', mul-le-mul_right, suc-mul}
use native.Mathlib.Omega.{arith}
use lib.ListN.{length, get_or}
use lib.Seq.{ext_get_or}
use Rattle.words.specs.Loops.{each}
use Rattle.words.proofs.Items.{each-eq, each-each, length-ones, number_at}
use Rattle.flip.specs.Flips.{flip, turned, flip_at, flipped, after}
use Rattle.flip.specs.declared.Flip.{Flip}

pub turned_lt : (on : Bool) (n x : ℕ) → x < n → turned on n x < n
turned_lt true n x p = omega arith
turned_lt false n x p = p

turned-turned : (a b : Bool) (n x : ℕ) → x < n → turned a n (turned b n x) ≡ turned (xor a b) n x
unfolding xor
turned-turned true true n x p = omega arith
turned-turned true false n x p = refl
turned-turned false true n x p = refl
turned-turned false false n x p = refl

-- ---- a row and a place in it make a place, w places a row

pub place-lt : (w h y x : ℕ) → y < h → x < w → y * w + x < w * h
place-lt w h y x p q = omega (arith, mul-le-mul_right w p, suc-mul y w, mul_comm w h)

pub place-row : (w y x : ℕ) → x < w → (y * w + x) / w ≡ y
place-row w y x q = mul-add-div_right {m = w} (omega arith) y x ∙ ap (λ (k : ℕ). y + k) (div-eq_of_lt q) ∙ add-zero y

pub place-column : (w y x : ℕ) → x < w → (y * w + x) % w ≡ x
place-column w y x q = mul-add-mod_self_right y w x ∙ mod-eq_of_lt q

module _ (w h i : ℕ) (p : i < w * h) (z : 0 < w) where
  pub row_lt : i / w < h
  row_lt = (div-lt_iff_lt-mul z).1 (omega (arith, mul_comm w h))

  pub column-lt : i % w < w
  column-lt = mod-lt i z

  pub flip_at-lt : (f : Flip) → flip_at f w h i < w * h
  unfolding flip_at
  flip_at-lt f =
      place-lt w h (turned f.v h (i / w)) (turned f.h w (i % w)) (turned_lt f.v h (i / w) row_lt) (turned_lt f.h w (i % w) column-lt)

  flip_at-flip_at : (f g : Flip) → flip_at f w h (flip_at g w h i) ≡ flip_at (after f g) w h i
  unfolding flip_at
  flip_at-flip_at f g =
      let a : turned g.h w (i % w) < w = turned_lt g.h w (i % w) column-lt in
      simp (
        place-row w (turned g.v h (i / w)) (turned g.h w (i % w)) a,
        place-column w (turned g.v h (i / w)) (turned g.h w (i % w)) a,
        turned-turned f.v g.v h (i / w) row_lt,
        turned-turned f.h g.h w (i % w) column-lt,
      )

-- ---- a flipped tile by its pixels

module _ (f : Flip) (w h : ℕ) (tile : List ℕ) where
  abbrev pixel : ℕ → ℕ
  pixel i = get_or tile (flip_at f w h i) 0

  pub length-flipped : length (flipped f w h tile) ≡ w * h
  unfolding flipped
  length-flipped = length-ones (w * h) pixel

  pub flipped-at : (i : ℕ) → i < w * h → get_or (flipped f w h tile) i 0 ≡ get_or tile (flip_at f w h i) 0
  unfolding flipped
  flipped-at = number_at (w * h) pixel

  -- and by its rows: in their order or turned, each as it is or turned
  abbrev pub flipped_row : ℕ → List ℕ
  flipped_row y = each w (λ x. get_or tile (turned f.v h y * w + turned f.h w x) 0 ∷ [])

  pub flipped-rows : each h flipped_row ≡ flipped f w h tile
  unfolding flipped flip_at
  flipped-rows =
      each-eq h flipped_row (λ y. each w (λ x. pixel (y * w + x) ∷ []))
      (λ y p. each-eq w (λ x. get_or tile (turned f.v h y * w + turned f.h w x) 0 ∷ []) (λ x. pixel (y * w + x) ∷ [])
      (λ x q. ap₂ (λ (r c : ℕ). get_or tile (turned f.v h r * w + turned f.h w c) 0 ∷ []) (sym (place-row w y x q)) (sym (place-column w y x q))))
      ∙ each-each h w (λ i. pixel i ∷ [])
      ∙ ap (λ (n : ℕ). each n (λ i. pixel i ∷ [])) (mul_comm h w)

-- a list that has the pixels of a flipped tile is it
pub is-flipped : (f : Flip) (w h : ℕ) (tile l : List ℕ) → length l ≡ w * h → ((i : ℕ) → i < w * h → get_or tile (flip_at f w h i) 0 ≡ get_or l i 0) → flipped f w h tile ≡ l
is-flipped f w h tile l len e =
    ext_get_or 0 (flipped f w h tile) l (length-flipped f w h tile ∙ sym len)
    (λ i q. let p : i < w * h = omega (arith, length-flipped f w h tile) in
    flipped-at f w h tile i p ∙ e i p)

-- ---- the group

module _ (w h : ℕ) (tile : List ℕ) (z : 0 < w) where
  -- composing two flips is xor on each
  pub flipped-flipped : (f g : Flip) → flipped f w h (flipped g w h tile) ≡ flipped (after g f) w h tile
  flipped-flipped f g =
      is-flipped f w h (flipped g w h tile) (flipped (after g f) w h tile) (length-flipped (after g f) w h tile)
      (λ i p. flipped-at g w h tile (flip_at f w h i) (flip_at-lt w h i p z f)
      ∙ ap (λ (k : ℕ). get_or tile k 0) (flip_at-flip_at w h i p z g f)
      ∙ sym (flipped-at (after g f) w h tile i p))

  -- the identity leaves a tile as it is
  pub flipped-none : length tile ≡ w * h → flipped (flip false false) w h tile ≡ tile
  unfolding flip_at
  flipped-none len = is-flipped (flip false false) w h tile tile len (λ i p. ap (λ (k : ℕ). get_or tile k 0) (div-add-mod' i w))

xor_self : (b : Bool) → xor b b ≡ false
unfolding xor
xor_self true = refl
xor_self false = refl

xor_comm : (a b : Bool) → xor a b ≡ xor b a
unfolding xor
xor_comm true true = refl
xor_comm true false = refl
xor_comm false true = refl
xor_comm false false = refl

module _ (w h : ℕ) (tile : List ℕ) (z : 0 < w) where
  -- each flip undoes itself
  pub flipped-back : (f : Flip) → length tile ≡ w * h → flipped f w h (flipped f w h tile) ≡ tile
  flipped-back f len = flipped-flipped w h tile z f f ∙ rw (xor_self f.h, xor_self f.v) (flipped-none w h tile z len)

  -- h then v is hv
  pub h-then-v : flipped (flip false true) w h (flipped (flip true false) w h tile) ≡ flipped (flip true true) w h tile
  unfolding xor
  h-then-v = flipped-flipped w h tile z (flip false true) (flip true false)

  -- the order does not matter
  pub flips-commute : (f g : Flip) → flipped f w h (flipped g w h tile) ≡ flipped g w h (flipped f w h tile)
  flips-commute f g =
      flipped-flipped w h tile z f g
      ∙ rw (xor_comm g.h f.h, xor_comm g.v f.v) (sym (flipped-flipped w h tile z g f))
