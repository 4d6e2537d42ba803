-- The bytes of a turned word are those of the turned tile; where a turned tile's words stand; and the table's rule.
-- Assumes nothing.
use mathlib.Core.Path.{◌≡◌, refl, sym, ap, ap₂, ◌∙◌, subst}
use mathlib.Core.Bool.{Bool, true, false, not, cond, ◌&&◌, ◌||◌}
use mathlib.Core.List.{List, [], ◌∷◌}
use Prim.Native.Nat.{ℕ, ◌+◌, ◌-◌, ◌*◌, ◌/◌, ◌%◌, ◌≤◌, ◌<◌}
use native.Mathlib.Nat.{zero-add}
use native.Mathlib.Numerals.{unary_clauses}
use native.Mathlib.Omega.{arith}
use lib.Bits.{bit_xor}
use lib.Dec.{T, ltb, leb, eqb, ltb→lt, leb→le, eqb→eq}
use lib.ListN.{length, get_or}
use lib.Seq.{sets}
use borrow.Author.Tests.{eq-eqb}
use Rattle.words.specs.Inner.{wide, word_at, byte_in, bytes_in, all}
use Rattle.words.proofs.Eights.{wide-byte, word-byte-at}
use Rattle.words.proofs.Filling.{Filled, filled_next}
use Rattle.words.proofs.Loops.{both_left, both_right, all-at}
use Rattle.tile.specs.Bits.{bit_of}
use Rattle.tile.specs.Layout.{element}
use Rattle.tile.specs.Inner.{HasWord}
use Rattle.tile.proofs.Bits.{bit-lt, bits-lt}
use Rattle.tile.proofs.Filling.{run, run_is}
use Rattle.tile.proofs.Packings.{each_at, implied}
use Rattle.nativeflip.specs.Flipping.{reversed}
use Rattle.nativeflip.specs.Inner.{is_row, each_back, parts_back, word_place, row_place, byte_from, fields_back, RowsBack, FieldsBack, BitsBack, planes_turned, pixels_turned, Reverses, HasWords}
use Rattle.nativeflip.proofs.Wires.{byte-bits}

-- ---- the table: the test at each entry is its rule

pub table-reverses : (t : List ℕ) → T (all 256 (λ n. eqb (get_or t n 0) (reversed n))) → Reverses t
table-reverses t ok = record { entry = λ n l. eqb→eq (get_or t n 0) (reversed n) (all-at 256 (λ n. eqb (get_or t n 0) (reversed n)) ok n l) }

-- ---- places: by tests over the rows

-- a place counted from the other end of its row differs in the row's bits
pub each_back_lem : (n x : ℕ) → T (is_row n) → x < 8 → bit_xor x (n - 1) ≡ each_back n x
each_back_lem n x t l =
    let test : ℕ → ℕ → Bool = λ n x. eqb (bit_xor x (n - 1)) (each_back n x) in
    eqb→eq (bit_xor x (n - 1)) (each_back n x) (all-at 8 (test n) (each_at (1 ∷ 2 ∷ 4 ∷ 8 ∷ []) (λ n. all 8 (test n)) tt n t) x l)

pub some-row : (n : ℕ) → T (is_row n) → 1 ≤ n
some-row n t = leb→le 1 n (each_at (1 ∷ 2 ∷ 4 ∷ 8 ∷ []) (λ n. leb 1 n) tt n t)

-- a word is another of its tile
abbrev back_test : ℕ → ℕ → Bool
back_test n words = not (eqb (words % n) 0) || all words (λ b. ltb (each_back n b) words)

pub word-inside : {n : ℕ} {across : Bool} {bytes : List ℕ} → HasWords n across bytes → (b : ℕ) (down : Bool) → b * 8 + 8 ≤ length bytes → word_place n down b * 8 + 8 ≤ length bytes
word-inside h b false l = l
word-inside {n} {bytes = bytes} h b true l =
    let words = length bytes / 8 in
    let counts : T (all 9 (back_test n)) = each_at (1 ∷ 2 ∷ 4 ∷ 8 ∷ []) (λ n. all 9 (back_test n)) tt n h.row in
    let here : T (back_test n words) = all-at 9 (back_test n) counts words (omega (arith, h.few)) in
    let whole : T (eqb (words % n) 0) = subst T (sym (eq-eqb (words % n) 0 h.groups)) tt in
    let inside : T (ltb (each_back n b) words) = all-at words (λ b. ltb (each_back n b) words) (implied (eqb (words % n) 0) (all words (λ b. ltb (each_back n b) words)) here whole) b (omega arith) in
    let back : each_back n b < words = ltb→lt (each_back n b) words inside in
    omega arith

-- a byte is another of its word: with the bytes of each row in reverse order, with the rows so, and with both
abbrev byte_test : ℕ → ℕ → Bool
byte_test n m =
    ltb (each_back n m) 8 && (eqb (parts_back 1 (parts_back n m)) (each_back n m) && eqb (parts_back 1 m) (parts_back n (each_back n m)))

module _ (n m : ℕ) (l : m < 8) where
  parts_within : T (is_row n) → parts_back n m < 8
  parts_within t =
      ltb→lt (parts_back n m) 8 (all-at 8 (λ m. ltb (parts_back n m) 8) (each_at (1 ∷ 2 ∷ 4 ∷ 8 ∷ []) (λ n. all 8 (λ m. ltb (parts_back n m) 8)) tt n t) m l)

  byte-test : T (is_row n) → T (byte_test n m)
  byte-test t = all-at 8 (byte_test n) (each_at (1 ∷ 2 ∷ 4 ∷ 8 ∷ []) (λ n. all 8 (byte_test n)) tt n t) m l

  abbrev back-within : Bool
  back-within = ltb (each_back n m) 8

  abbrev back-across : Bool
  back-across = eqb (parts_back 1 (parts_back n m)) (each_back n m)

  abbrev back-both : Bool
  back-both = eqb (parts_back 1 m) (parts_back n (each_back n m))

  each_within : T (is_row n) → each_back n m < 8
  each_within t = ltb→lt (each_back n m) 8 (both_left back-within (back-across && back-both) (byte-test t))

  across-place : T (is_row n) → parts_back 1 (parts_back n m) ≡ each_back n m
  across-place t = eqb→eq (parts_back 1 (parts_back n m)) (each_back n m) (both_left back-across back-both (both_right back-within (back-across && back-both) (byte-test t)))

  both-place : T (is_row n) → parts_back 1 m ≡ parts_back n (each_back n m)
  both-place t = eqb→eq (parts_back 1 m) (parts_back n (each_back n m)) (both_right back-across back-both (both_right back-within (back-across && back-both) (byte-test t)))

-- ---- a word of a flipped tile

part : (b m : ℕ) → m < 8 → (b * 8 + m) / 8 ≡ b
part b m l = omega arith

rest : (b m : ℕ) → m < 8 → (b * 8 + m) % 8 ≡ m
rest b m l = omega arith

place_at : (n b m : ℕ) (down : Bool) → m < 8 → row_place n down (b * 8 + m) ≡ word_place n down b * 8 + cond down (parts_back n m) m
place_at n b m true l = ap₂ (λ (x y : ℕ). each_back n x * 8 + parts_back n y) (part b m l) (rest b m l)
place_at n b m false l = refl

-- what a word of it is
abbrev pub IsWord : ℕ → Bool → Bool → List ℕ → ℕ → ℕ → Type 0
IsWord n across down bytes b r = HasWord (element (pixels_turned n across down (length bytes)) bytes) b r

pub as-flipped : (n : ℕ) (bytes : List ℕ) (b r : ℕ) (x y : Bool) {across down : Bool} → across ≡ x → down ≡ y → IsWord n x y bytes b r → IsWord n across down bytes b r
as-flipped n bytes b r x y {across} {down} eh ev h =
    subst (λ (a : Bool). IsWord n a down bytes b r) (sym eh) (subst (λ (d : Bool). IsWord n x d bytes b r) (sym ev) h)

module _ (n b : ℕ) (t : T (is_row n)) (bytes : List ℕ) (small : (i : ℕ) → get_or bytes i 0 < 256) (down : Bool) {at w : ℕ}
    (here : at ≡ word_place n down b) (word : w ≡ word_at false bytes (at * 8)) where
  byte-read : (x : ℕ) → x < 8 → byte_in w x ≡ get_or bytes (word_place n down b * 8 + x) 0
  byte-read x l =
      ap (λ (v : ℕ). byte_in v x) word ∙ word-byte-at bytes small false (at * 8) x l ∙ ap (λ (k : ℕ). get_or bytes (k * 8 + x) 0) here

  -- its bytes as they are
  row-bytes : (r : ℕ) → ((m : ℕ) → m < 8 → byte_in r m ≡ byte_in w (cond down (parts_back n m) m)) → ((m : ℕ) → m < 8 → cond down (parts_back n m) m < 8) → IsWord n false down bytes b r
  row-bytes r h inside m lm =
      h m lm
      ∙ byte-read (cond down (parts_back n m) m) (inside m lm)
      ∙ ap (λ (k : ℕ). get_or bytes k 0) (sym (place_at n b m down lm))
      ∙ sym (byte-bits (byte_from n down bytes (b * 8 + m)) (small (row_place n down (b * 8 + m))))

  -- and with the bytes of each row in reverse order, the fields of each too
  pixel-bytes : (r : ℕ) (x : ℕ → ℕ) → ((m : ℕ) → m < 8 → byte_in r m ≡ fields_back n (byte_in w (x m))) → ((m : ℕ) → m < 8 → x m < 8)
      → ((m : ℕ) → m < 8 → x m ≡ cond down (parts_back n (each_back n m)) (each_back n m)) → IsWord n true down bytes b r
  pixel-bytes r x h inside same m lm =
      h m lm
      ∙ ap (fields_back n) (byte-read (x m) (inside m lm)
      ∙ ap (λ (k : ℕ). get_or bytes (word_place n down b * 8 + k) 0) (same m lm)
      ∙ ap (λ (k : ℕ). get_or bytes k 0) (sym (place_at n b (each_back n m) down (each_within n m lm t)))
      ∙ sym (ap₂ (λ (k y : ℕ). byte_from n down bytes (k * 8 + each_back n y)) (part b m lm) (rest b m lm)))

module _ (n b : ℕ) (t : T (is_row n)) (bytes : List ℕ) (small : (i : ℕ) → get_or bytes i 0 < 256) {at w : ℕ} (word : w ≡ word_at false bytes (at * 8)) where
  pub word_on : at ≡ word_place n false b → IsWord n false false bytes b w
  word_on here = row-bytes n b t bytes small false here word w (λ m lm. refl) (λ m lm. lm)

  pub word-down : (r : ℕ) → at ≡ word_place n true b → RowsBack n w r → IsWord n false true bytes b r
  word-down r here rows = row-bytes n b t bytes small true here word r rows (λ m lm. parts_within n m lm t)

  pub word-both : (a r : ℕ) → at ≡ word_place n true b → RowsBack 1 w a → FieldsBack n a r → IsWord n true true bytes b r
  word-both a r here back fields =
      pixel-bytes n b t bytes small true here word r (parts_back 1) (λ m lm. fields m lm ∙ ap (fields_back n) (back m lm))
      (λ m lm. parts_within 1 m lm tt) (λ m lm. both-place n m lm t)

  pub word-across : (a c r : ℕ) → at ≡ word_place n false b → RowsBack 1 w a → RowsBack n a c → FieldsBack n c r → IsWord n true false bytes b r
  word-across a c r here back rows fields =
      pixel-bytes n b t bytes small false here word r (λ m. parts_back 1 (parts_back n m))
      (λ m lm. fields m lm ∙ ap (fields_back n) (rows m lm ∙ back (parts_back n m) (parts_within n m lm t)))
      (λ m lm. parts_within 1 (parts_back n m) (parts_within n m lm t) tt) (λ m lm. across-place n m lm t)

-- the bits of each byte of a word in reverse order, of planes whose rows are turned or not
pub bits-word : (n b : ℕ) (bytes : List ℕ) (small : (i : ℕ) → get_or bytes i 0 < 256) (down : Bool) (w r : ℕ) → IsWord n false down bytes b w → BitsBack w r
    → HasWord (element (planes_turned n true down (length bytes)) bytes) b r
unfolding reversed
bits-word n b bytes small down w r h back m lm =
    back m lm ∙ ap reversed (h m lm ∙ byte-bits (byte_from n down bytes (b * 8 + m)) (small (row_place n down (b * 8 + m))))

-- ---- a word made of its bytes

pub of-bytes : (f : ℕ → ℕ) (r : ℕ) → ((j : ℕ) → f j < 256) → r ≡ f 0 + 256 * (f 1 + 256 * (f 2 + 256 * (f 3 + 256 * (f 4 + 256 * (f 5 + 256 * (f 6 + 256 * f 7))))))
    → (m : ℕ) → m < 8 → byte_in r m ≡ f m
unfolding wide
of-bytes f r small e m lm =
    ap (λ (x : ℕ). byte_in x m) (e ∙ as_wide) ∙ wide-byte 8 0 m f small lm ∙ ap f (zero-add m)
  where
    as_wide : f 0 + 256 * (f 1 + 256 * (f 2 + 256 * (f 3 + 256 * (f 4 + 256 * (f 5 + 256 * (f 6 + 256 * f 7)))))) ≡ wide 8 0 f
    as_wide = simp unary_clauses refl

pub reversed-small : (v : ℕ) → reversed v < 256
unfolding reversed
reversed-small v = bits-lt 8 0 (λ j. bit_of (7 - j) v) (λ j. bit-lt (7 - j) v)

-- ---- the loops' step

pub word_next : (f : ℕ → ℕ) (w : ℕ) {out now then : List ℕ} {b : ℕ} → Filled (run f) out 0 b now → then ≡ sets now (b * 8) (bytes_in w) → HasWord f b w → Filled (run f) out 0 (b + 1) then
word_next f w {now = now} {b = b} h e g = filled_next 8 (λ j. refl) h (e ∙ ap (λ (l : List ℕ). sets now (b * 8) l) (run_is f b w g))
