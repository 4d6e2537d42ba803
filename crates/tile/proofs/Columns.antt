-- Words that were turned once give the rows of every plane, at each depth and in each group.
-- Assumes nothing.
use mathlib.Core.Path.{◌≡◌, sym, ap, ap₂, ◌∙◌}
use mathlib.Core.Bool.{Bool, false, ◌&&◌}
use mathlib.Core.List.{List, [], ◌∷◌}
use mathlib.Core.Logic.{⊎_elim}
use Prim.Native.Nat.{ℕ, ◌+◌, ◌-◌, ◌*◌, ◌/◌, ◌%◌, ◌^◌, ◌<◌}
use native.Mathlib.Nat.{eq-zero-or-pos, zero-div, zero-add}
use native.Mathlib.Omega.{arith}
use lib.Dec.{T, ltb, eqb, ltb→lt}
use lib.ListN.{get_or-eq_default, length, get_or}
use Rattle.words.specs.Inner.{word_at, byte_in, all}
use Rattle.words.proofs.Eights.{word_small, word-byte-at}
use Rattle.words.proofs.Loops.{both_left, both_right, all-at}
use Rattle.mode.specs.Table.{one_of}
use Rattle.tile.specs.Bits.{bit_of}
use Rattle.tile.specs.Layout.{element}
use Rattle.tile.specs.Packings.{planar}
use Rattle.tile.specs.Inner.{is_packing, byte_of, WordsIn, Columns, word_from, HasWord, column, strands, crossed, reversed_bytes}
use Rattle.tile.specs.declared.Packing.TheVariants.{Planar}
use Rattle.tile.proofs.Bits.{bit-lt, bits-same, bit-of-bits}
use Rattle.tile.proofs.Wires.{columns-is}
use Rattle.tile.proofs.Filling.{Starts}
use Rattle.tile.proofs.Sides.{Within, word_byte, fewer-planes}
use Rattle.tile.proofs.Packings.{each_at, planes-of}

-- a byte of the only word
none : (q : ℕ) → q < 8 → q / 8 ≡ 0
none q l = omega arith

pub only : (v q : ℕ) → q < 8 → byte_of (v ∷ []) q ≡ byte_in v q
only v q l = ap₂ (λ (i m : ℕ). byte_in (get_or (v ∷ []) i 0) m) (none q l) (omega arith)

-- bit q of byte x of a turned word
columns-bit : (v x q : ℕ) → v < 2 ^ 64 → x < 8 → q < 8 → bit_of q (byte_in (reversed_bytes (crossed v)) x) ≡ bit_of (7 - x) (byte_in v q)
columns-bit v x q l lx lq =
    let f : ℕ → ℕ = λ j. bit_of (7 - (0 * 8 + x)) (byte_of (v ∷ []) j) in
    ap (λ (w : ℕ). bit_of q (byte_in w x)) (columns-is v l)
    ∙ ap (bit_of q) (word_byte column (v ∷ []) 0 x (omega arith) (λ j m. omega arith) lx)
    ∙ bit-of-bits 8 0 q f (λ j. bit-lt (7 - (0 * 8 + x)) (byte_of (v ∷ []) j)) lq
    ∙ ap₂ (λ (p j : ℕ). bit_of p (byte_of (v ∷ []) j)) (ap (λ (x : ℕ). 7 - x) (zero-add x)) (zero-add q)
    ∙ ap (bit_of (7 - x)) (only v q lq)

bit-of-none : (p q m : ℕ) → bit_of q (byte_in 0 m) ≡ bit_of p 0
bit-of-none p q m = rw (zero-div (2 ^ (m * 8)), zero-div (2 ^ q), zero-div (2 ^ p))

-- the words of a list, turned
abbrev pub turned : List ℕ → ℕ → ℕ
turned xs i = reversed_bytes (crossed (word_at false xs (i * 8)))

module _ (xs : List ℕ) (small : (i : ℕ) → get_or xs i 0 < 256) where
  pub columns-read : {n : ℕ} {ws : List ℕ} → WordsIn xs n → Starts 8 (turned xs) n ws → Columns xs ws
  columns-read {n} {ws} h st = record { are = column-are }
    where
      column-are : (k q : ℕ) → k < 64 → q < 8 → bit_of q (byte_of ws k) ≡ bit_of (7 - k % 8) (get_or xs (k / 8 * 8 + q) 0)
      column-are k q lk lq =
          let bit : ℕ → ℕ = λ w. bit_of q (byte_in w (k % 8)) in
          ⊎_elim (λ (no : n - k / 8 ≡ 0). ap bit (st.none (k / 8) (omega arith))
          ∙ bit-of-none (7 - k % 8) q (k % 8)
          ∙ ap (bit_of (7 - k % 8)) (sym (get_or-eq_default xs 0 (omega (arith, h.ends (omega arith))))))
          (λ (yes : 0 < n - k / 8). ap bit (st.are (k / 8) (omega arith))
          ∙ columns-bit (word_at false xs (k / 8 * 8)) (k % 8) q (word_small xs small false (k / 8 * 8)) (omega arith) lq
          ∙ ap (bit_of (7 - k % 8)) (word-byte-at xs small false (k / 8 * 8) q lq))
          (eq-zero-or-pos (n - k / 8))

-- ---- a row out of turned words, over the plane, the group and the depth

abbrev strand_test : ℕ → ℕ → ℕ → Bool
strand_test g k p = ltb ((strands g).from k p) 64 && ltb ((strands g).place k p) 8

strands-within : (g : ℕ) → T (one_of g (1 ∷ 2 ∷ 4 ∷ [])) → Within (strands g) 64
strands-within g t k p lk lp =
    let rows : T (all 64 (λ k. all 8 (strand_test g k))) = each_at (1 ∷ 2 ∷ 4 ∷ []) (λ g. all 64 (λ k. all 8 (strand_test g k))) tt g t in
    let here : T (strand_test g k p) = all-at 8 (strand_test g k) (all-at 64 (λ k. all 8 (strand_test g k)) rows k lk) p lp in
    let a = ltb ((strands g).from k p) 64 in
    let b = ltb ((strands g).place k p) 8 in
    (ltb→lt ((strands g).from k p) 64 (both_left a b here), ltb→lt ((strands g).place k p) 8 (both_right a b here))

strand-column : (a b x : ℕ) → x < 8 → ((a + b / 8) * 8 + x) % 8 ≡ x
strand-column a b x l = omega arith

strand-place : (a b x c : ℕ) → x < 8 → ((a + b / 8) * 8 + x) / 8 * 8 + (b % 8 + c) ≡ a * 8 + b + c
strand-place a b x c l = omega arith

regroup : (q g b c : ℕ) → q * g * 8 + b + c ≡ q * (g * 8) + b + c
regroup q g b c = omega arith

pub planar-row-is : (g d : ℕ) → T (is_packing (Planar g d)) → (xs ts : List ℕ) (r w : ℕ) → Columns xs ts
    → length xs ≡ d * 8 → r < 8 → w ≡ word_from (strands g) ts r → HasWord (element (planar g d 8 8).pixels xs) r w
planar-row-is g d t xs ts r w h len lr e m lm =
    let k = r * 8 + m in
    let within = strands-within g (both_left (one_of g (1 ∷ 2 ∷ 4 ∷ [])) (ltb d 9 && eqb (d % g) 0) t) in
    ap (λ (x : ℕ). byte_in x m) e
    ∙ word_byte (strands g) ts r m (omega arith) (λ j l. (within k j (omega arith) l).1) lm
    ∙ bits-same 8 0 (λ p. bit_of ((strands g).place k p) (byte_of ts ((strands g).from k p)))
    (λ p. bit_of (7 - k % 8) (get_or xs (p / g * (g * 8) + k / 8 * g + p % g) 0))
    (λ p a c. let i = within k p (omega arith) (omega arith) in
    h.are ((strands g).from k p) ((strands g).place k p) i.0 i.1
    ∙ ap₂ (λ (x y : ℕ). bit_of (7 - x) (get_or xs y 0)) (strand-column (p / g * g) (k / 8 * g) (k % 8) (omega arith))
    (strand-place (p / g * g) (k / 8 * g) (k % 8) (p % g) (omega arith) ∙ regroup (p / g) g (k / 8 * g) (p % g)))
    ∙ fewer-planes xs g d k (planes-of g d t) len
