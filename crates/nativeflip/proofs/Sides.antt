-- The bytes of a flipped tile of every packing but a sprite's, by computed tests over the packings and the flips.
-- Assumes nothing.
use mathlib.Core.Path.{◌≡◌, refl, sym, ap, ◌∙◌, subst}
use mathlib.Core.Bool.{Bool, true, false, not, ◌&&◌, ◌||◌}
use mathlib.Core.List.{List, [], ◌∷◌}
use Prim.Native.Nat.{ℕ, ◌/◌, ◌%◌, ◌≤◌}
use native.Mathlib.Omega.{arith}
use lib.Dec.{T, ltb, leb, eqb, ltb→lt, leb→le, eqb→eq}
use lib.ListN.{length}
use lib.Seq.{sets}
use denote.Enum.Declared.{tag_of}
use types.Run.{OneOf, miss}
use Rattle.words.specs.Inner.{all}
use Rattle.words.proofs.Loops.{both_left, both_right, all-at}
use Rattle.mode.specs.Table.{one_of}
use Rattle.tile.specs.Layout.{Side, spread}
use Rattle.tile.specs.Packings.{layout_in}
use Rattle.tile.specs.Inner.{byte_count, packed_in, unpacked_in, is_packing}
use Rattle.tile.specs.declared.Packing.{Packing}
use Rattle.tile.specs.declared.Packing.TheVariants.{Planar, Ngp, LowFirst, HighFirst, Plain, Sprite}
use Rattle.tile.specs.contracts.Packing.{the_type}
use Rattle.tile.proofs.Packings.{in_each, each_at, implied}
use Rattle.flip.specs.Flips.{flip, flip_at, flipped}
use Rattle.flip.specs.declared.Flip.{Flip}
use Rattle.nativeflip.specs.Inner.{is_row, is_pixel_row, planes_turned, pixels_turned, is_cell, HasRows, HasTile}
use Rattle.nativeflip.proofs.Agreement.{all_agree, one-step}

-- the bytes of a row, and how they are turned
abbrev pub row_of : Packing → ℕ
row_of (Planar g d) = g
row_of Ngp = 2
row_of LowFirst = 4
row_of HighFirst = 4
row_of Plain = 8
row_of (Sprite w h) = 1

abbrev pub side_of : Packing → Flip → ℕ → Side
side_of (Planar g d) f size = planes_turned g f.h f.v size
side_of Ngp f size = pixels_turned 2 f.h f.v size
side_of LowFirst f size = pixels_turned 4 f.h f.v size
side_of HighFirst f size = pixels_turned 4 f.h f.v size
side_of Plain f size = pixels_turned 8 f.h f.v size
side_of (Sprite w h) f size = planes_turned 1 f.h f.v size

-- ---- the tests: whole words in whole groups, and each of the four flips

abbrev shaped : Packing → Bool
shaped p =
    (is_row (row_of p) && eqb (byte_count p % 8) 0) && (eqb (byte_count p / 8 % row_of p) 0 && leb (byte_count p) 64)

abbrev turns : Packing → Flip → Bool
turns p f = all_agree (layout_in p) f 8 8 (side_of p f (byte_count p))

abbrev all_turn : Packing → Bool
all_turn p = (turns p (flip false false) && turns p (flip true false)) && (turns p (flip false true) && turns p (flip true true))

abbrev test : Packing → Bool
test p = shaped p && all_turn p

abbrev planar_test : ℕ → ℕ → Bool
planar_test g d = not (ltb d 9 && eqb (d % g) 0) || test (Planar g d)

planar-all : T (in_each (1 ∷ 2 ∷ 4 ∷ []) (λ g. all 9 (planar_test g)))
unfolding flip_at
planar-all = tt

planar-passes : (g d : ℕ) → T (is_packing (Planar g d)) → T (test (Planar g d))
planar-passes g d t =
    let group : T (one_of g (1 ∷ 2 ∷ 4 ∷ [])) = both_left (one_of g (1 ∷ 2 ∷ 4 ∷ [])) (ltb d 9 && eqb (d % g) 0) t in
    let deep : T (ltb d 9 && eqb (d % g) 0) = both_right (one_of g (1 ∷ 2 ∷ 4 ∷ [])) (ltb d 9 && eqb (d % g) 0) t in
    let depths : T (all 9 (planar_test g)) = each_at (1 ∷ 2 ∷ 4 ∷ []) (λ g. all 9 (planar_test g)) planar-all g group in
    let here : T (planar_test g d) = all-at 9 (planar_test g) depths d (ltb→lt d 9 (both_left (ltb d 9) (eqb (d % g) 0) deep)) in
    implied (ltb d 9 && eqb (d % g) 0) (test (Planar g d)) here deep

passes : (p : Packing) → T (is_cell p) → T (test p)
unfolding flip_at
passes (Planar g d) t = planar-passes g d t
passes Ngp t = tt
passes LowFirst t = tt
passes HighFirst t = tt
passes Plain t = tt
passes (Sprite w h) t = absurd t

-- ---- what they say

flip-passes : (p : Packing) → T (all_turn p) → (fh fv : Bool) → T (turns p (flip fh fv))
flip-passes p t fh fv =
    let n = turns p (flip false false) in
    let h = turns p (flip true false) in
    let v = turns p (flip false true) in
    let hv = turns p (flip true true) in
    of_four fh fv (both_left n h (both_left (n && h) (v && hv) t)) (both_right n h (both_left (n && h) (v && hv) t))
    (both_left v hv (both_right (n && h) (v && hv) t)) (both_right v hv (both_right (n && h) (v && hv) t))
  where
    of_four : (fh fv : Bool) → T (turns p (flip false false)) → T (turns p (flip true false)) → T (turns p (flip false true)) → T (turns p (flip true true)) → T (turns p (flip fh fv))
    of_four false false n h v hv = n
    of_four true false n h v hv = h
    of_four false true n h v hv = v
    of_four true true n h v hv = hv

turns-all : (p : Packing) → T (is_cell p) → (f : Flip) → T (turns p f)
turns-all p t f = flip-passes p (both_right (shaped p) (all_turn p) (passes p t)) f.h f.v

-- unpacking, flipping and packing is turning the bytes
pub turns_as : (p : Packing) → T (is_cell p) → (f : Flip) (bytes : List ℕ) → packed_in p (flipped f 8 8 (unpacked_in p bytes)) ≡ spread (side_of p f (byte_count p)) bytes
turns_as (Planar g d) t f bytes = one-step (layout_in (Planar g d)) f 8 8 (side_of (Planar g d) f (byte_count (Planar g d))) (omega arith) refl (turns-all (Planar g d) t f) bytes refl refl
turns_as Ngp t f bytes = one-step (layout_in Ngp) f 8 8 (side_of Ngp f 16) (omega arith) refl (turns-all Ngp t f) bytes refl refl
turns_as LowFirst t f bytes = one-step (layout_in LowFirst) f 8 8 (side_of LowFirst f 32) (omega arith) refl (turns-all LowFirst t f) bytes refl refl
turns_as HighFirst t f bytes = one-step (layout_in HighFirst) f 8 8 (side_of HighFirst f 32) (omega arith) refl (turns-all HighFirst t f) bytes refl refl
turns_as Plain t f bytes = one-step (layout_in Plain) f 8 8 (side_of Plain f 64) (omega arith) refl (turns-all Plain t f) bytes refl refl
turns_as (Sprite w h) t f bytes = absurd t

-- ---- a tile of the packing that a match found

module _ {p : Packing} {bytes out : List ℕ} (h : HasTile p bytes out) (q : Packing) (e : p ≡ q) where
  cell : T (is_cell q)
  cell = subst (λ (x : Packing). T (is_cell x)) e h.cell

  size : byte_count q ≡ length bytes
  size = ap byte_count (sym e) ∙ sym h.whole

  pub rows-asked : (across : Bool) → (across ≡ true → T (is_pixel_row (row_of q))) → HasRows (row_of q) (byte_count q / 8) across bytes out
  rows-asked across pixels =
      let n = byte_count q in
      let a = is_row (row_of q) && eqb (n % 8) 0 in
      let b = eqb (n / 8 % row_of q) 0 && leb n 64 in
      let here : T (shaped q) = both_left (shaped q) (all_turn q) (passes q cell) in
      let eights : n % 8 ≡ 0 = eqb→eq (n % 8) 0 (both_right (is_row (row_of q)) (eqb (n % 8) 0) (both_left a b here)) in
      record {
        has = record {
          row = both_left (is_row (row_of q)) (eqb (n % 8) 0) (both_left a b here);
          pixels = pixels;
          groups = subst (λ (k : ℕ). k / 8 % row_of q ≡ 0) size (eqb→eq (n / 8 % row_of q) 0 (both_left (eqb (n / 8 % row_of q) 0) (leb n 64) (both_right a b here)));
          few = subst (λ (k : ℕ). k ≤ 64) size (leb→le n 64 (both_right (eqb (n / 8 % row_of q) 0) (leb n 64) (both_right a b here)));
        };
        whole = sym size ∙ omega arith;
        space = h.space;
      }

  pub turned-in : (f : Flip) → sets out 0 (spread (side_of q f (length bytes)) bytes) ≡ sets out 0 (packed_in p (flipped f 8 8 (unpacked_in p bytes)))
  turned-in f =
      ap (λ (k : ℕ). sets out 0 (spread (side_of q f k) bytes)) (sym size)
      ∙ ap (λ (l : List ℕ). sets out 0 l) (sym (turns_as q cell f bytes))
      ∙ ap (λ (x : Packing). sets out 0 (packed_in x (flipped f 8 8 (unpacked_in x bytes)))) (sym e)

-- planes: as many words as the depth
pub planes-asked : {p : Packing} {bytes out : List ℕ} → HasTile p bytes out → (g d : ℕ) → p ≡ Planar g d → HasRows g d false bytes out
planes-asked {bytes = bytes} {out} h g d e =
    let words : byte_count (Planar g d) / 8 ≡ d = omega arith in
    subst (λ (k : ℕ). HasRows g k false bytes out) words (rows-asked h (Planar g d) e false (λ no. absurd (subst T (sym no) tt)))

-- nibbles, the first pixel low or high: what is left of a match whose other arms name the others
module _ {bytes out : List ℕ} where
  pub nibbles-asked : (p : Packing) → HasTile p bytes out → OneOf (2 ∷ 3 ∷ 5 ∷ []) (tag_of the_type p) → (across : Bool) → HasRows 4 4 across bytes out
  nibbles-asked (Planar g d) h o across = absurd (miss (2 ∷ 3 ∷ 5 ∷ []) 0 tt o)
  nibbles-asked Ngp h o across = absurd (miss (2 ∷ 3 ∷ 5 ∷ []) 1 tt o)
  nibbles-asked LowFirst h o across = rows-asked h LowFirst refl across (λ e. tt)
  nibbles-asked HighFirst h o across = rows-asked h HighFirst refl across (λ e. tt)
  nibbles-asked Plain h o across = absurd (miss (2 ∷ 3 ∷ 5 ∷ []) 4 tt o)
  nibbles-asked (Sprite w t) h o across = absurd h.cell

  pub nibbles-turned : (p : Packing) → HasTile p bytes out → OneOf (2 ∷ 3 ∷ 5 ∷ []) (tag_of the_type p) → (f : Flip)
      → sets out 0 (spread (pixels_turned 4 f.h f.v (length bytes)) bytes) ≡ sets out 0 (packed_in p (flipped f 8 8 (unpacked_in p bytes)))
  nibbles-turned (Planar g d) h o f = absurd (miss (2 ∷ 3 ∷ 5 ∷ []) 0 tt o)
  nibbles-turned Ngp h o f = absurd (miss (2 ∷ 3 ∷ 5 ∷ []) 1 tt o)
  nibbles-turned LowFirst h o f = turned-in h LowFirst refl f
  nibbles-turned HighFirst h o f = turned-in h HighFirst refl f
  nibbles-turned Plain h o f = absurd (miss (2 ∷ 3 ∷ 5 ∷ []) 4 tt o)
  nibbles-turned (Sprite w t) h o f = absurd h.cell
