-- Unpacking: what passed checks say, and that the colours which the code finds are document 01's.
-- Assumes nothing.
use mathlib.Core.Path.{◌≡◌, refl, sym, ap, ◌∙◌}
use mathlib.Core.Bool.{Bool, true, false, cond}
use mathlib.Core.List.{List, ◌++◌}
use Prim.Native.Nat.{ℕ, ◌*◌, ◌/◌, ◌%◌, ◌<◌, ◌≤◌}
use native.Mathlib.Nat.{zero-mul}
use native.Mathlib.Omega.{arith}
use lib.Dec.{eqb}
use lib.ListN.{length, take, drop, length-append}
use lib.Seq.{sets}
use borrow.Author.Tests.{ltb-false, lt-ltb, eqb-true, not-false}
use Rattle.words.specs.Answers.{overwrite}
use Rattle.words.specs.Bytes.{word_of}
use Rattle.words.specs.Loops.{each}
use Rattle.words.proofs.Answers.{all-passed, not-given}
use Rattle.words.proofs.Loops.{length-each, sets-front, put_next}
use Rattle.mode.proofs.ByMode.{every-mode}
use Rattle.color.specs.Color.{coloring, unpackable, color_count, unpack_checks, unpack_says, values_in, color_with, four_with, unpacked}
use Rattle.color.specs.Inner.{color_from, four_from, word_from}
use Rattle.color.specs.declared.color_places.ColorPlaces.{ColorPlaces}
use Rattle.words.proofs.Items.{each-eq}
use Rattle.color.proofs.Places.{found, found-four}

-- a colour from each word, and four from one
pub unpacked-one : (m : ℕ) (bs : List ℕ) → (coloring m).four ≡ false → unpacked m bs ≡ each (length bs / (coloring m).size) (λ i. color_with m (values_in m bs i))
unfolding unpacked
unpacked-one m bs one = rw one

pub unpacked-all : (m : ℕ) (bs : List ℕ) → (coloring m).four ≡ true → unpacked m bs ≡ four_with m (values_in m bs 0)
unfolding unpacked
unpacked-all m bs many = rw many

-- the colours of the code's places
module _ (l : ColorPlaces) (bs : List ℕ) where
  pub unpacks-words : l.four ≡ false → each (length bs / l.size) (λ i. color_from l (word_from l bs (i * l.size))) ≡ unpacked l.mode bs
  unpacks-words single =
      let m = l.mode in
      ap (λ (size : ℕ). each (length bs / size) (λ i. color_from l (word_of l.most (take size (drop (i * size) bs))))) l.size_is
      ∙ each-eq (length bs / (coloring m).size) (λ i. color_from l (word_of l.most (take (coloring m).size (drop (i * (coloring m).size) bs)))) (λ i. color_with m (values_in m bs i))
      (λ i lt. rw l.most_is (sym (found l (word_of (coloring m).most (take (coloring m).size (drop (i * (coloring m).size) bs))))))
      ∙ sym (unpacked-one m bs (rw l.four_is at single))

  pub unpacks-four : l.four ≡ true → four_from l (word_from l bs 0) ≡ unpacked l.mode bs
  unpacks-four all =
      let m = l.mode in
      let many = rw l.four_is at all in
      rw (unpacked-all m bs many, zero-mul (coloring m).size, l.size_is, l.most_is) (sym (found-four l (word_of (coloring m).most (take (coloring m).size (drop 0 bs))) many))

-- four colours put one by one
pub put-colors : (l a b c d : List ℕ) → length a ≡ 4 → length b ≡ 4 → length c ≡ 4 → length d ≡ 4 → 16 ≤ length l
    → sets (sets (sets (sets l 0 a) 4 b) 8 c) 12 d ≡ overwrite l (((a ++ b) ++ c) ++ d)
put-colors l a b c d ha hb hc hd space =
    let ab = length-append a b in
    let abc = length-append (a ++ b) c in
    let all : length (((a ++ b) ++ c) ++ d) ≡ 16 = omega (arith, length-append ((a ++ b) ++ c) d) in
    rw (sets-front l a (omega arith), ha, put_next a b l 4 4 ha hb (omega arith), put_next (a ++ b) c l 8 4 (omega arith) hc (omega arith), put_next ((a ++ b) ++ c) d l 12 4 (omega arith) hd (omega arith), all)

-- a colour has four bytes
from-length : (l : ColorPlaces) (w : ℕ) (b : Bool) → l.gray ≡ b → length (color_from l w) ≡ 4
from-length l w true e = rw e
from-length l w false e = rw e

pub length_from : (l : ColorPlaces) (w : ℕ) → length (color_from l w) ≡ 4
length_from l w = from-length l w l.gray refl

color-length : (m : ℕ) (vs : List ℕ) (b : Bool) → (coloring m).gray ≡ b → length (color_with m vs) ≡ 4
color-length m vs true e = rw e
color-length m vs false e = rw e

pub length-color : (m : ℕ) (vs : List ℕ) → length (color_with m vs) ≡ 4
length-color m vs = color-length m vs (coloring m).gray refl

-- how many bytes there are
length-case : (m : ℕ) (bs : List ℕ) (b : Bool) → (coloring m).four ≡ b → length (unpacked m bs) ≡ color_count (coloring m).four (coloring m).size (length bs) * 4
length-case m bs true e = rw (unpacked-all m bs e, e)
length-case m bs false e = rw (unpacked-one m bs e, e) (length-each (length bs / (coloring m).size) 4 (λ i. color_with m (values_in m bs i)) (λ i. length-color m (values_in m bs i)))

pub length-unpacked : (m : ℕ) (bs : List ℕ) → length (unpacked m bs) ≡ color_count (coloring m).four (coloring m).size (length bs) * 4
length-unpacked m bs = length-case m bs (coloring m).four refl

pub unpack-no-mode : (m len space : ℕ) → 15 < m → unpack_says m len space ≡ 1
unfolding unpack_says
unpack-no-mode m len space h = rw (lt-ltb 15 m h)

-- what no refusal says
pub record Unpacks (m len space : ℕ) : Type 0 where
  pub whole : unpackable m len ≡ true
  pub fits : 4 * color_count (coloring m).four (coloring m).size len ≤ space

pub unpacks : (m len space : ℕ) → unpack_says m len space ≡ 0 → Unpacks m len space
unfolding unpack_says
unpacks m len space e =
    let passed = all-passed (unpack_checks m len space) e in
    record { whole = not-false _ (not-given 6 _ (passed 1)); fits = ltb-false _ _ (not-given 10 _ (passed 2)) }

-- ngp is the one mode whose words have one gray
abbrev Readable : ℕ → Type 0
Readable m =
    let c = coloring m in
    (len : ℕ) → unpackable m len ≡ cond c.four (eqb len c.size) (cond c.gray (eqb len 4) (eqb (len % c.size) 0))

pub readable-right : (m : ℕ) → m < 16 → Readable m
unfolding coloring
readable-right = every-mode Readable (search depth 40)

module _ (l : ColorPlaces) (len : ℕ) where
  pub readable : cond l.four (eqb len l.size) (cond l.gray (eqb len 4) (eqb (len % l.size) 0)) ≡ unpackable l.mode len
  readable = rw (l.four_is, l.size_is, l.gray_is) (sym (readable-right l.mode l.is_mode len))

  pub four-whole : (space : ℕ) → Unpacks l.mode len space → l.four ≡ true → len ≡ l.size
  four-whole space p many = eqb-true len l.size (rw many at (readable ∙ p.whole))

pub unpacks-size : (l : ColorPlaces) (bs : List ℕ) → color_count l.four l.size (length bs) * 4 ≡ length (unpacked l.mode bs)
unpacks-size l bs = rw (l.four_is, l.size_is) (sym (length-unpacked l.mode bs))
