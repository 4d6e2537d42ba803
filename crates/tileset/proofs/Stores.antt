-- Cut pixels, and the tiles of a store after one was put at the end.
-- Assumes nothing.
use mathlib.Core.Path.{◌≡◌, refl, sym, ap, ◌∙◌}
use mathlib.Core.List.{List, [], ◌∷◌, ◌++◌, map, append_assoc}
use Prim.Native.Nat.{ℕ, zero, suc, ◌+◌, ◌*◌, ◌%◌, ◌^◌, ◌<◌, ◌≤◌}
use native.Mathlib.Nat.{zero-mod, add-zero, add-suc, suc-add, suc-mul, mul-le-mul_right, zero-add, not-suc-le-zero}
use native.Mathlib.Numerals.{add-one}
use native.Mathlib.Omega.{arith}
use lib.ListN.{length, get_or, take, drop, length-map, length-drop, get_or-map, take-append-drop}
use lib.Seq.{sets, sets-eq, length-sets, take_at, drop_at, take-append-le, drop-append-le, length-take-le}
use Rattle.words.specs.Loops.{each}
use Rattle.words.proofs.Loops.{sets-front}
use Rattle.words.proofs.Items.{each-eq}
use Rattle.words.proofs.Filling.{each_of}
use Rattle.tileset.specs.Finding.{cut_to, tiles_from, tiles_in}

pub length_cut : (d : ℕ) (pixels : List ℕ) → length (cut_to d pixels) ≡ length pixels
unfolding cut_to
length_cut d pixels = length-map pixels _

pub cut_at : (d : ℕ) (pixels : List ℕ) (i : ℕ) → get_or (cut_to d pixels) i 0 ≡ get_or pixels i 0 % 2 ^ d
unfolding cut_to
cut_at d pixels i =
    ap (λ (n : ℕ). get_or (map (λ (p : ℕ). p % 2 ^ d) pixels) i n) (sym (zero-mod (2 ^ d))) ∙ get_or-map (λ (p : ℕ). p % 2 ^ d) pixels i 0

-- cutting pixel by pixel
pub each-cut : (d : ℕ) (pixels : List ℕ) → each (length pixels) (λ k. get_or pixels k 0 % 2 ^ d ∷ []) ≡ cut_to d pixels
each-cut d pixels =
    each-eq (length pixels) _ (λ k. get_or (cut_to d pixels) k 0 ∷ []) (λ i lt. ap (λ (n : ℕ). n ∷ []) (sym (cut_at d pixels i)))
    ∙ ap (λ (n : ℕ). each n (λ k. get_or (cut_to d pixels) k 0 ∷ [])) (sym (length_cut d pixels))
    ∙ each_of (cut_to d pixels)

-- the cut pixels in a buffer of their own
pub cut-front : (d : ℕ) (pixels out : List ℕ) → length pixels ≤ length out → take (length pixels) (sets out 0 (cut_to d pixels)) ≡ cut_to d pixels
cut-front d pixels out space =
    ap (take (length pixels)) (sets-front out (cut_to d pixels) (omega (arith, length_cut d pixels)))
    ∙ take_at (cut_to d pixels) (drop (length (cut_to d pixels)) out) (length pixels) (length_cut d pixels)

-- ---- the tiles of a store

-- a part lies in the front of a list
part-front : (n b at : ℕ) (l : List ℕ) → b + n ≤ at → at ≤ length l → take n (drop b l) ≡ take n (drop b (take at l))
part-front n b at l p fits =
    let len : length (take at l) ≡ at = length-take-le at l fits in
    ap (λ (x : List ℕ). take n (drop b x)) (sym (take-append-drop at l))
    ∙ ap (take n) (drop-append-le b (take at l) (drop at l) (omega arith))
    ∙ take-append-le n (drop b (take at l)) (drop at l) (omega (arith, length-drop b (take at l)))

module _ (s : List ℕ) (at : ℕ) (t : List ℕ) (n : ℕ) (fits : at + n ≤ length s) (whole : length t ≡ n) where
  abbrev put : List ℕ
  put = sets s at t

  abbrev rest : List ℕ
  rest = t ++ drop (at + length t) s

  put_is : put ≡ take at s ++ rest
  put_is = sets-eq t s at (omega arith) ∙ append_assoc (take at s) t (drop (at + length t) s)

  front : length (take at s) ≡ at
  front = length-take-le at s (omega arith)

  tile-before : (b : ℕ) → b + n ≤ at → take n (drop b put) ≡ take n (drop b s)
  tile-before b p =
      part-front n b at put p (omega (arith, length-sets s at t))
      ∙ ap (λ (x : List ℕ). take n (drop b x)) (ap (take at) put_is ∙ take_at (take at s) rest at front)
      ∙ sym (part-front n b at s p (omega arith))

  tile-in : take n (drop at put) ≡ t
  tile-in =
      ap (λ (x : List ℕ). take n (drop at x)) put_is
      ∙ ap (take n) (drop_at (take at s) rest at front)
      ∙ take_at t (drop (at + length t) s) n whole

pub tiles_more : (n : ℕ) (s : List ℕ) (k m : ℕ) → tiles_from n s k (suc m) ≡ tiles_from n s k m ++ take n (drop ((k + m) * n) s) ∷ []
tiles_more n s k zero = rw (add-zero k)
tiles_more n s k (suc m) =
    ap (λ (r : List (List ℕ)). take n (drop (k * n) s) ∷ r) (tiles_more n s (suc k) m ∙ rw (suc-add k m, add-suc k m))

tiles-same : (n : ℕ) (s t : List ℕ) (k m : ℕ) → ((j : ℕ) → j < k + m → take n (drop (j * n) t) ≡ take n (drop (j * n) s)) → tiles_from n t k m ≡ tiles_from n s k m
tiles-same n s t k zero e = refl
tiles-same n s t k (suc m) e = rw (e k (omega arith), tiles-same n s t (suc k) m (λ j p. e j (omega arith)))

-- the tile that was put at the end comes after the others
pub tiles-put : (n : ℕ) (s t : List ℕ) (count : ℕ) → count * n + n ≤ length s → length t ≡ n → tiles_in n (sets s (count * n) t) (count + 1) ≡ tiles_in n s count ++ t ∷ []
unfolding tiles_in
tiles-put n s t count p e =
    let after = sets s (count * n) t in
    let others : tiles_from n after 0 count ≡ tiles_from n s 0 count =
    tiles-same n s after 0 count (λ j q. tile-before s (count * n) t n p e (j * n) (omega (arith, mul-le-mul_right n (before j count q), suc-mul j n))) in
    ap (tiles_from n after 0) (add-one count)
    ∙ tiles_more n after 0 count
    ∙ ap (λ (x : List (List ℕ)). x ++ take n (drop ((0 + count) * n) after) ∷ []) others
    ∙ ap (λ (x : List ℕ). tiles_from n s 0 count ++ x ∷ []) (ap (λ (k : ℕ). take n (drop (k * n) after)) (zero-add count) ∙ tile-in s (count * n) t n p e)
  where
    before : (j c : ℕ) → j < 0 + c → suc j ≤ c
    before j c q = omega arith

pub length-tiles : (n : ℕ) (s : List ℕ) (k count : ℕ) → length (tiles_from n s k count) ≡ count
length-tiles n s k zero = refl
length-tiles n s k (suc count) = ap suc (length-tiles n s (suc k) count)

pub tiles-long : (n : ℕ) (s : List ℕ) (count : ℕ) → length (tiles_in n s count) ≡ count
unfolding tiles_in
tiles-long n s count = length-tiles n s 0 count

from_at : (n : ℕ) (s : List ℕ) (k count i : ℕ) → i < count → get_or (tiles_from n s k count) i [] ≡ take n (drop ((k + i) * n) s)
from_at n s k zero i lt = absurd (not-suc-le-zero lt)
from_at n s k (suc count) zero lt = rw (add-zero k)
from_at n s k (suc count) (suc i) lt = from_at n s (suc k) count i (omega arith) ∙ ap (λ (j : ℕ). take n (drop (j * n) s)) (suc-add k i ∙ sym (add-suc k i))

pub tiles-at : (n : ℕ) (s : List ℕ) (count i : ℕ) → i < count → get_or (tiles_in n s count) i [] ≡ take n (drop (i * n) s)
unfolding tiles_in
tiles-at n s count i lt = from_at n s 0 count i lt ∙ ap (λ (j : ℕ). take n (drop (j * n) s)) (zero-add i)
