-- The laws of a list by its elements, of a loop that stores words, and of one that fills an array.
-- Assumes nothing.
use mathlib.Core.Path.{◌≡◌, refl, sym, ap, ◌∙◌, subst}
use mathlib.Core.Bool.{Bool, true, ◌&&◌}
use mathlib.Core.Logic.{⊎_elim}
use mathlib.Core.List.{List, [], ◌∷◌, ◌++◌}
use Prim.Native.Nat.{ℕ, zero, suc, ◌+◌, ◌-◌, ◌*◌, ◌≤◌, ◌<◌}
use native.Mathlib.Nat.{eq-or-lt_of_le, le_of_suc-le-suc, not-suc-le-zero, add-zero, add-suc, suc-add, zero-add}
use native.Mathlib.Omega.{arith}
use lib.Dec.{T, eqb, eqb→eq}
use lib.ListN.{length, get_or, set, take, drop, length-set, length-drop}
use lib.Seq.{sets, length-take-le, get_or-set_same, get_or-set_other, get_or-take, get_or-drop}
use Rattle.words.specs.Loops.{each}
use Rattle.words.proofs.Items.{each-eq, each-each}
use Rattle.words.proofs.Loops.{both_left, both_right}
use Rattle.words.proofs.Filling.{Filled, filled_more, filled-all}
use Rattle.tile.specs.Bits.{table}
use Rattle.tile.specs.Layout.{Side, element, spread}
use Rattle.words.specs.Inner.{byte_in, bytes_in}
use Rattle.tile.specs.Inner.{HasWord, HasWords}

pub length-table : (n at : ℕ) (f : ℕ → ℕ) → length (table n at f) ≡ n
unfolding table
length-table zero at f = refl
length-table (suc n) at f = ap suc (length-table n (suc at) f)

pub get_or-table : (n at i : ℕ) (f : ℕ → ℕ) → i < n → get_or (table n at f) i 0 ≡ f (at + i)
unfolding table
get_or-table zero at i f l = absurd (not-suc-le-zero l)
get_or-table (suc n) at zero f l = ap f (sym (add-zero at))
get_or-table (suc n) at (suc i) f l = get_or-table n (suc at) i f (le_of_suc-le-suc l) ∙ ap f (suc-add at i ∙ sym (add-suc at i))

-- one element more at the end
table_more : (n at : ℕ) (f : ℕ → ℕ) → table (suc n) at f ≡ table n at f ++ f (at + n) ∷ []
unfolding table
table_more zero at f = ap (λ (k : ℕ). f k ∷ []) (sym (add-zero at))
table_more (suc n) at f =
    ap (λ (t : List ℕ). f at ∷ t) (table_more n (suc at) f ∙ ap (λ (k : ℕ). table n (suc at) f ++ f k ∷ []) (suc-add at n ∙ sym (add-suc at n)))

-- and so it is its elements, one after the other, as a loop fills a slice with them
pub table-each : (n : ℕ) (f : ℕ → ℕ) → table n 0 f ≡ each n (λ k. f k ∷ [])
unfolding table
table-each zero f = refl
table-each (suc n) f = table_more n 0 f ∙ rw (zero-add, table-each n f)

-- ---- words stored one after the other

-- eight numbers from 8 * b on
abbrev pub run : (ℕ → ℕ) → ℕ → List ℕ
run f b = each 8 (λ m. f (b * 8 + m) ∷ [])

pub run_is : (f : ℕ → ℕ) (b w : ℕ) → HasWord f b w → bytes_in w ≡ run f b
run_is f b w h = each-eq 8 (λ m. byte_in w m ∷ []) (λ m. f (b * 8 + m) ∷ []) (λ m l. ap (λ (x : ℕ). x ∷ []) (h m l))

pub word_next : (f : ℕ → ℕ) (w : ℕ) {out now then : List ℕ} {at b : ℕ} → Filled (run f) out at b now
    → then ≡ sets now (at + b * 8) (bytes_in w) → HasWord f b w → Filled (run f) out at (b + 1) then
word_next f w {now = now} {at = at} {b = b} h e g =
    filled_more 8 (λ j. refl) h (e ∙ ap (λ (l : List ℕ). sets now (at + b * 8) l) (run_is f b w g))

pub words-stored : (f : ℕ → ℕ) (n : ℕ) {out now : List ℕ} {at b : ℕ} → Filled (run f) out at b now → b ≡ n
    → now ≡ sets out at (each (n * 8) (λ k. f k ∷ []))
words-stored f n {out} {at = at} h e =
    filled-all n h e ∙ ap (λ (l : List ℕ). sets out at l) (each-each n 8 (λ k. f k ∷ []))

pub words_are : (f : ℕ → ℕ) (n : ℕ) (ws : List ℕ) → HasWords f n ws → each n (λ i. bytes_in (get_or ws i 0)) ≡ each (n * 8) (λ k. f k ∷ [])
words_are f n ws h =
    each-eq n (λ i. bytes_in (get_or ws i 0)) (run f) (λ i l. run_is f i (get_or ws i 0) (h i l)) ∙ each-each n 8 (λ k. f k ∷ [])

pub spread-is : (s : Side) (xs : List ℕ) (n : ℕ) → n ≡ s.count → each n (λ k. element s xs k ∷ []) ≡ spread s xs
unfolding spread
spread-is s xs n e = sym (table-each n (element s xs)) ∙ ap (λ (n : ℕ). table n 0 (element s xs)) e

-- words that are made as a side says have its bytes
pub words-of-side : (s : Side) (xs ws : List ℕ) (n : ℕ) → length ws ≡ n → HasWords (element s xs) n ws → n * 8 ≡ s.count
    → each (length ws) (λ i. bytes_in (get_or ws i 0)) ≡ spread s xs
words-of-side s xs ws n e h c =
    ap (λ (k : ℕ). each k (λ i. bytes_in (get_or ws i 0))) e ∙ words_are (element s xs) n ws h ∙ spread-is s xs (n * 8) c

pub tile-stored : (s : Side) (xs : List ℕ) (n : ℕ) {out now : List ℕ} {at b : ℕ} → Filled (run (element s xs)) out at b now
    → b ≡ n → n * 8 ≡ s.count → now ≡ sets out at (spread s xs)
tile-stored s xs n {out} {at = at} h e c =
    words-stored (element s xs) n h e ∙ ap (λ (l : List ℕ). sets out at l) (spread-is s xs (n * 8) c)

-- ---- an array that is filled from the front: n numbers are f's, and the others 0
pub record Starts (size : ℕ) (f : ℕ → ℕ) (n : ℕ) (ws : List ℕ) : Type 0 where
  pub long : length ws ≡ size
  pub are : (i : ℕ) → i < n → get_or ws i 0 ≡ f i
  pub none : (i : ℕ) → n ≤ i → get_or ws i 0 ≡ 0

abbrev pub zeros : List ℕ → Bool
zeros [] = true
zeros (x ∷ xs) = eqb x 0 && zeros xs

zero-at : (ws : List ℕ) → T (zeros ws) → (i : ℕ) → get_or ws i 0 ≡ 0
zero-at [] t i = refl
zero-at (x ∷ xs) t zero = eqb→eq x 0 (both_left (eqb x 0) (zeros xs) t)
zero-at (x ∷ xs) t (suc i) = zero-at xs (both_right (eqb x 0) (zeros xs) t) i

pub starts_none : (f : ℕ → ℕ) (ws : List ℕ) → T (zeros ws) → Starts (length ws) f 0 ws
starts_none f ws t = record { long = refl; are = λ i l. absurd (not-suc-le-zero l); none = λ i l. zero-at ws t i }

pub starts_more : {size : ℕ} (f : ℕ → ℕ) (n v : ℕ) (ws : List ℕ) → Starts size f n ws → n < size → v ≡ f n → Starts size f (n + 1) (set ws n v)
starts_more f n v ws h l e =
    record {
      long = length-set ws n v ∙ h.long;
      are = λ i k. ⊎_elim (λ (same : i ≡ n). ap (λ (j : ℕ). get_or (set ws n v) j 0) same ∙ get_or-set_same ws n v 0 (omega (arith, h.long)) ∙ e ∙ ap f (sym same))
          (λ (less : i < n). get_or-set_other ws n i v 0 (λ e. absurd (omega arith)) ∙ h.are i less)
          (eq-or-lt_of_le (omega arith));
      none = λ i k. get_or-set_other ws n i v 0 (λ e. absurd (omega arith)) ∙ h.none i (omega arith);
    }

-- a part of a list
pub length_part : (xs : List ℕ) (from n : ℕ) → from + n ≤ length xs → length (take n (drop from xs)) ≡ n
length_part xs from n h = length-take-le n (drop from xs) (omega (arith, length-drop from xs))

pub part-long : (xs : List ℕ) (from n m : ℕ) → n ≡ m → from + m ≤ length xs → length (take (from + n - from) (drop from xs)) ≡ m
part-long xs from n m e h =
    let same : from + n - from ≡ m = omega arith in
    ap (λ (k : ℕ). length (take k (drop from xs))) same ∙ length_part xs from m h

pub part_small : (xs : List ℕ) (from n i : ℕ) → ((i : ℕ) → get_or xs i 0 < 256) → i < n → get_or (take n (drop from xs)) i 0 < 256
part_small xs from n i small l =
    subst (λ (v : ℕ). v < 256) (sym (get_or-take n (drop from xs) i 0 l ∙ get_or-drop from xs i 0)) (small (from + i))
