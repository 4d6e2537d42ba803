-- Every packing is a layout whose two sides are inverse, by computed tests, so every place that one side names is within the other.
-- Assumes nothing.
use mathlib.Core.Path.{◌≡◌, refl, sym, ap, ap₂, ◌∙◌, subst}
use mathlib.Core.Bool.{Bool, true, false, not, ◌&&◌, ◌||◌}
use mathlib.Core.List.{List, [], ◌∷◌}
use Prim.Native.Nat.{ℕ, ◌+◌, ◌-◌, ◌*◌, ◌/◌, ◌%◌, ◌≤◌, ◌<◌}
use native.Mathlib.Omega.{arith}
use lib.Dec.{T, ltb, leb, eqb, ltb→lt, leb→le, eqb→eq}
use lib.ListN.{take, drop}
use lib.Seq.{sets}
use Rattle.words.specs.Inner.{all}
use Rattle.words.proofs.Loops.{both_left, both_right, all-at}
use Rattle.mode.specs.Table.{one_of}
use Rattle.tile.specs.Packings.{planar, sprite, layout_in}
use Rattle.tile.specs.Inner.{pixel_count, byte_count, packed_in, unpacked_in, is_packing, Packs, Unpacks, Planes, PacksWhole, UnpacksWhole}
use Rattle.tile.specs.declared.Packing.{Packing}
use Rattle.tile.specs.declared.Packing.TheVariants.{Planar, Ngp, LowFirst, HighFirst, Plain, Sprite}
use Rattle.tile.proofs.Filling.{part-long}
use Rattle.tile.proofs.RoundTrip.{is_layout}

-- a test that is computed over a list, as a rule at each of its numbers
abbrev pub in_each : List ℕ → (ℕ → Bool) → Bool
in_each [] f = true
in_each (x ∷ xs) f = f x && in_each xs f

each-case : (y : ℕ) (ys : List ℕ) (f : ℕ → Bool) (x : ℕ) (b : Bool) → eqb x y ≡ b → T (f y) → (T (one_of x ys) → T (f x)) → T (one_of x (y ∷ ys)) → T (f x)
each-case y ys f x true e here rest o = subst (λ (z : ℕ). T (f z)) (sym (eqb→eq x y (subst T (sym e) tt))) here
each-case y ys f x false e here rest o = rest (subst (λ (b : Bool). T (b || one_of x ys)) e o)

pub each_at : (xs : List ℕ) (f : ℕ → Bool) → T (in_each xs f) → (x : ℕ) → T (one_of x xs) → T (f x)
each_at [] f t x o = absurd o
each_at (y ∷ ys) f t x o =
    each-case y ys f x (eqb x y) refl (both_left (f y) (in_each ys f) t) (each_at ys f (both_right (f y) (in_each ys f) t) x) o

pub or-none : (a : Bool) → (a || false) ≡ a
or-none true = refl
or-none false = refl

pub implied : (a b : Bool) → T (not a || b) → T a → T b
implied true b t a = t
implied false b t a = absurd a

-- ---- planes

abbrev planar_test : ℕ → ℕ → Bool
planar_test g d = not (ltb d 9 && eqb (d % g) 0) || is_layout (planar g d 8 8)

planar-is : (g d : ℕ) → T (is_packing (Planar g d)) → T (is_layout (planar g d 8 8))
planar-is g d t =
    let group : T (one_of g (1 ∷ 2 ∷ 4 ∷ [])) = both_left (one_of g (1 ∷ 2 ∷ 4 ∷ [])) (ltb d 9 && eqb (d % g) 0) t in
    let deep : T (ltb d 9 && eqb (d % g) 0) = both_right (one_of g (1 ∷ 2 ∷ 4 ∷ [])) (ltb d 9 && eqb (d % g) 0) t in
    let depths : T (all 9 (planar_test g)) = each_at (1 ∷ 2 ∷ 4 ∷ []) (λ g. all 9 (planar_test g)) tt g group in
    let here : T (planar_test g d) = all-at 9 (planar_test g) depths d (ltb→lt d 9 (both_left (ltb d 9) (eqb (d % g) 0) deep)) in
    implied (ltb d 9 && eqb (d % g) 0) (is_layout (planar g d 8 8)) here deep

-- ---- sprites

-- a test that is computed over the six sizes, as a rule at each
pub sizes-at : (f : ℕ → ℕ → Bool) → T (in_each (16 ∷ 32 ∷ []) (λ w. in_each (16 ∷ 32 ∷ 64 ∷ []) (f w))) → (w h : ℕ) → T (is_packing (Sprite w h)) → T (f w h)
sizes-at f all w h t =
    each_at (16 ∷ 32 ∷ 64 ∷ []) (f w)
    (each_at (16 ∷ 32 ∷ []) (λ w. in_each (16 ∷ 32 ∷ 64 ∷ []) (f w)) all w (both_left (one_of w (16 ∷ 32 ∷ [])) (one_of h (16 ∷ 32 ∷ 64 ∷ [])) t))
    h (both_right (one_of w (16 ∷ 32 ∷ [])) (one_of h (16 ∷ 32 ∷ 64 ∷ [])) t)

sprite-is : (w h : ℕ) → T (is_packing (Sprite w h)) → T (is_layout (sprite w h))
sprite-is = sizes-at (λ (w h : ℕ). is_layout (sprite w h)) tt

pub layout_is : (p : Packing) → T (is_packing p) → T (is_layout (layout_in p))
layout_is (Planar g d) t = planar-is g d t
layout_is Ngp t = tt
layout_is LowFirst t = tt
layout_is HighFirst t = tt
layout_is Plain t = tt
layout_is (Sprite w h) t = sprite-is w h t

-- ---- what the code of a place asks

pub planes-of : (g d : ℕ) → T (is_packing (Planar g d)) → Planes g d
planes-of g d t =
    let group : T (one_of g (1 ∷ 2 ∷ 4 ∷ [])) = both_left (one_of g (1 ∷ 2 ∷ 4 ∷ [])) (ltb d 9 && eqb (d % g) 0) t in
    let deep : T (ltb d 9 && eqb (d % g) 0) = both_right (one_of g (1 ∷ 2 ∷ 4 ∷ [])) (ltb d 9 && eqb (d % g) 0) t in
    let whole : d % g ≡ 0 = eqb→eq (d % g) 0 (both_right (ltb d 9) (eqb (d % g) 0) deep) in
    let few : T (leb g 4) = each_at (1 ∷ 2 ∷ 4 ∷ []) (λ g. leb g 4) tt g group in
    let some : T (ltb 0 g) = each_at (1 ∷ 2 ∷ 4 ∷ []) (λ g. ltb 0 g) tt g group in
    let even : T (not (eqb g 3)) = each_at (1 ∷ 2 ∷ 4 ∷ []) (λ g. not (eqb g 3)) tt g group in
    record {
      group = record { some = ltb→lt 0 g some; few = leb→le g 4 few; even = λ e. subst (λ (n : ℕ). T (not (eqb n 3))) e even };
      deep = let l : d < 9 = ltb→lt d 9 (both_left (ltb d 9) (eqb (d % g) 0) deep) in omega arith;
      pairs = λ e. subst (λ (n : ℕ). d % n ≡ 0) e whole;
      fours = λ e. subst (λ (n : ℕ). d % n ≡ 0) e whole;
    }

-- the size of a sprite
pub record Sized (w h : ℕ) : Type 0 where
  pub some : 0 < w
  pub wide : w ≤ 32
  pub down : 0 < h / 16
  pub tall : h ≤ 64
  pub few : w * h ≤ 2048
  pub cells : w / 16 * (h / 16) * 128 ≡ w * h * 4 / 8

abbrev size_test : ℕ → ℕ → Bool
size_test w h =
    ltb 0 w && (leb w 32 && (ltb 0 (h / 16) && (leb h 64 && (leb (w * h) 2048 && eqb (w / 16 * (h / 16) * 128) (w * h * 4 / 8)))))

pub sized_of : (w h : ℕ) → T (is_packing (Sprite w h)) → Sized w h
sized_of w h t =
    let here : T (size_test w h) = sizes-at size_test tt w h t in
    let e = eqb (w / 16 * (h / 16) * 128) (w * h * 4 / 8) in
    let d = leb (w * h) 2048 && e in
    let c = leb h 64 && d in
    let b = ltb 0 (h / 16) && c in
    let a = leb w 32 && b in
    let ta = both_right (ltb 0 w) a here in
    let tb = both_right (leb w 32) b ta in
    let tc = both_right (ltb 0 (h / 16)) c tb in
    let td = both_right (leb h 64) d tc in
    let te = both_right (leb (w * h) 2048) e td in
    record {
      some = ltb→lt 0 w (both_left (ltb 0 w) a here);
      wide = leb→le w 32 (both_left (leb w 32) b ta);
      down = ltb→lt 0 (h / 16) (both_left (ltb 0 (h / 16)) c tb);
      tall = leb→le h 64 (both_left (leb h 64) d tc);
      few = leb→le (w * h) 2048 (both_left (leb (w * h) 2048) e td);
      cells = eqb→eq (w / 16 * (h / 16) * 128) (w * h * 4 / 8) te;
    }

-- where a cell's first pixel stands, its last is within the sprite
abbrev pub cell_from : ℕ → ℕ → ℕ → ℕ
cell_from w h c = (c % (h / 16) * w + c / (h / 16)) * 16

pub cell-inside : (w h c : ℕ) → T (is_packing (Sprite w h)) → c < w / 16 * (h / 16) → cell_from w h c + 15 * w + 16 ≤ w * h
cell-inside w h c t l =
    let test : ℕ → ℕ → ℕ → Bool = λ w h c. leb (cell_from w h c + 15 * w + 16) (w * h) in
    leb→le (cell_from w h c + 15 * w + 16) (w * h) (all-at (w / 16 * (h / 16)) (test w h) (sizes-at (λ (w h : ℕ). all (w / 16 * (h / 16)) (test w h)) tt w h t) c l)

-- ---- a part that is a whole tile

pub packs-whole : {p : Packing} {xs out : List ℕ} {from at n : ℕ} → Packs p xs from out at → n ≡ pixel_count p
    → PacksWhole p (take (from + n - from) (drop from xs)) out at
packs-whole {p} {xs} {from = from} {n = n} h e =
    record { sound = h.sound; whole = part-long xs from n (pixel_count p) e h.inside; space = h.space }

pub unpacks-whole : {p : Packing} {bs out : List ℕ} {from at n : ℕ} → Unpacks p bs from out at → n ≡ byte_count p
    → UnpacksWhole p (take (from + n - from) (drop from bs)) out at
unpacks-whole {p} {bs} {from = from} {n = n} h e =
    record { sound = h.sound; whole = part-long bs from n (byte_count p) e h.inside; space = h.space }

-- ---- what holds of a packing holds of the one that a match found it to be, and the other way

module _ {p : Packing} (q : Packing) (e : p ≡ q) where
  pub sound-in : T (is_packing p) → T (is_packing q)
  sound-in t = subst (λ (x : Packing). T (is_packing x)) e t

  pub packs-in : {xs out : List ℕ} {at : ℕ} → PacksWhole p xs out at → PacksWhole q xs out at
  packs-in {xs} {out} {at} h = subst (λ (x : Packing). PacksWhole x xs out at) e h

  pub unpacks-in : {bs out : List ℕ} {at : ℕ} → UnpacksWhole p bs out at → UnpacksWhole q bs out at
  unpacks-in {bs} {out} {at} h = subst (λ (x : Packing). UnpacksWhole x bs out at) e h

  pub same_bytes : (xs out : List ℕ) (at from n : ℕ) → n ≡ pixel_count p
      → sets out at (packed_in q (take (from + n - from) (drop from xs))) ≡ sets out at (packed_in p (take (pixel_count p) (drop from xs)))
  same_bytes xs out at from n l =
      let size : from + n - from ≡ pixel_count p = omega arith in
      ap₂ (λ (x : Packing) (k : ℕ). sets out at (packed_in x (take k (drop from xs)))) (sym e) size

  pub same-pixels : (bs out : List ℕ) (at from n : ℕ) → n ≡ byte_count p
      → sets out at (unpacked_in q (take (from + n - from) (drop from bs))) ≡ sets out at (unpacked_in p (take (byte_count p) (drop from bs)))
  same-pixels bs out at from n l =
      let size : from + n - from ≡ byte_count p = omega arith in
      ap₂ (λ (x : Packing) (k : ℕ). sets out at (unpacked_in x (take k (drop from bs)))) (sym e) size

  pub pixel-count-in : {r : ℕ} → r ≡ pixel_count q → r ≡ pixel_count p
  pixel-count-in h = h ∙ ap pixel_count (sym e)

  pub byte-count-in : {r : ℕ} → r ≡ byte_count q → r ≡ byte_count p
  byte-count-in h = h ∙ ap byte_count (sym e)
