-- What the checks of redrawing answer, and what is known of a map once they passed.
-- Assumes nothing.
use mathlib.Core.Path.{◌≡◌, sym, ap, ◌∙◌}
use mathlib.Core.Bool.{Bool, true, false, not}
use mathlib.Core.List.{List, [], ◌∷◌}
use Prim.Native.Nat.{ℕ, ◌+◌, ◌*◌, ◌/◌, ◌%◌, ◌<◌, ◌≤◌}
use native.Mathlib.Nat.{mul-le-mul_right, suc-mul, div-add-mod'}
use native.Mathlib.Omega.{arith}
use lib.Dec.{ltb, eqb}
use lib.ListN.{length, get_or}
use borrow.Author.Tests.{lt-ltb, le-ltb, ltb-false, leb-false, eq-eqb, ne_eqb, eqb-true, not-false}
use Rattle.words.specs.Answers.{◌when◌, first_applying}
use Rattle.words.specs.Loops.{some}
use Rattle.words.proofs.Answers.{all-passed, not-given, first-given}
use Rattle.words.proofs.Items.{none-at}
use Rattle.words.proofs.Order.{first-append, next-given}
use Rattle.mode.specs.Table.{row}
use Rattle.picture.specs.Entries.{tile_named}
use Rattle.picture.specs.Converting.{size_checks, size_says}
use Rattle.picture.specs.Redrawing.{entry_at, names_more, redraw_says}
use Rattle.picture.specs.Inner.{Draws}
use Rattle.picture.proofs.Checks.{IsSize, size_of}

module _ (m d columns rows : ℕ) (tiles map : List ℕ) (space : ℕ) where
  abbrev size : ℕ
  size = size_says m d columns rows

  abbrev says : ℕ
  says = redraw_says m d columns rows tiles map space

  abbrev left : ℕ
  left = length tiles % (d * 8)

  abbrev due : ℕ
  due = columns * rows * (row m).entry

  abbrev more : Bool
  more = some (columns * rows) (names_more m d (length tiles) map)

  abbrev from-11 : List ℕ
  from-11 = 11 when ltb space (64 * (columns * rows)) ∷ []

  abbrev from_named : List ℕ
  from_named = 7 when more ∷ from-11

  abbrev from-map : List ℕ
  from-map = 7 when not (eqb (length map) due) ∷ from_named

  abbrev from-tiles : List ℕ
  from-tiles = 7 when not (eqb left 0) ∷ from-map

  redraw-is : says ≡ first_applying (size ∷ from-tiles)
  unfolding redraw_says size_says
  redraw-is = first-append (size_checks m d columns rows) from-tiles

  pub redraw-size : (n : ℕ) → n ≡ size → (n ≡ 0 → ⊥) → n ≡ says
  redraw-size n e h = first-given n from-tiles e h ∙ sym redraw-is

  module _ (s : size ≡ 0) where
    pub redraw-tiles : (left ≡ 0 → ⊥) → 7 ≡ says
    redraw-tiles e = sym (redraw-is ∙ next-given from-tiles s ∙ ap (λ (b : Bool). first_applying (7 when not b ∷ from-map)) (ne_eqb left 0 e))

    module _ (t : left ≡ 0) where
      to_map : says ≡ first_applying from-map
      to_map = redraw-is ∙ next-given from-tiles s ∙ next-given from-map (ap (λ (b : Bool). 7 when not b) (eq-eqb left 0 t))

      pub redraw-map : (length map ≡ due → ⊥) → 7 ≡ says
      redraw-map e = sym (to_map ∙ ap (λ (b : Bool). first_applying (7 when not b ∷ from_named)) (ne_eqb (length map) due e))

      module _ (l : length map ≡ due) where
        to_named : says ≡ first_applying from_named
        to_named = to_map ∙ next-given from_named (ap (λ (b : Bool). 7 when not b) (eq-eqb (length map) due l))

        pub redraw-named : more ≡ true → 7 ≡ says
        redraw-named e = sym (to_named ∙ ap (λ (b : Bool). first_applying (7 when b ∷ from-11)) e)

        module _ (n : more ≡ false) where
          to_space : says ≡ first_applying from-11
          to_space = to_named ∙ next-given from-11 (ap (λ (b : Bool). 7 when b) n)

          pub redraw-11 : space < 64 * (columns * rows) → 11 ≡ says
          redraw-11 h = sym (to_space ∙ ap (λ (b : Bool). first_applying (11 when b ∷ [])) (lt-ltb space (64 * (columns * rows)) h))

          pub redraw-0 : 64 * (columns * rows) ≤ space → 0 ≡ says
          redraw-0 h = sym (to_space ∙ ap (λ (b : Bool). first_applying (11 when b ∷ [])) (le-ltb space (64 * (columns * rows)) h))

  -- ---- nothing was refused

  module _ (z : says ≡ 0) where
    passed : (k : ℕ) → get_or (size ∷ from-tiles) k 0 ≡ 0
    passed = all-passed (size ∷ from-tiles) (sym redraw-is ∙ z)

    pub redraw-sized : IsSize m d columns rows
    redraw-sized = size_of m d columns rows (passed 0)

    tile-there : (k size len : ℕ) → 0 < size → k < len / size → k * size + size ≤ len
    tile-there k size len some lt =
        omega (arith, mul-le-mul_right size lt, suc-mul k size, div-add-mod' len size)

    pub redraw-draws : {out : List ℕ} → space ≡ length out → Draws m d columns rows tiles map out
    redraw-draws {out} e =
        let s = redraw-sized in
        record {
          mode = s.mode;
          mapped = s.map;
          depth = s.depth;
          narrow = s.narrow;
          low = s.low;
          whole = omega (arith, eqb-true (length map) due (not-false (eqb (length map) due) (not-given 6 (not (eqb (length map) due)) (passed 2))));
          named = λ i lt. tile-there (tile_named m 8 8 (entry_at m map i)) (d * 8) (length tiles) (omega (arith, s.shallow))
              (leb-false (length tiles / (d * 8)) (tile_named m 8 8 (entry_at m map i)) (none-at (columns * rows) (names_more m d (length tiles) map) (not-given 6 more (passed 3)) i lt));
          space = omega (arith, ltb-false space (64 * (columns * rows)) (not-given 10 (ltb space (64 * (columns * rows))) (passed 4)));
        }
