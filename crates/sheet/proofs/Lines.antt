-- What the laws of reading and writing ask of a list of lines: a computed test, true of the eight.
-- Assumes nothing.
use Prim.Native.Nat.{ℕ, ◌*◌, ◌≤◌}
use mathlib.Core.Path.{◌≡◌, subst}
use mathlib.Core.Bool.{Bool, true, false, cond, ◌&&◌}
use mathlib.Core.List.{List, [], ◌∷◌}
use native.Mathlib.Nat.{mul-le-mul}
use lib.Dec.{T, leb, eqb, leb→le, eqb→eq}
use lib.ListN.{length}
use Rattle.words.proofs.Loops.{both_left, both_right}
use Rattle.picture.specs.declared.Settings.{Settings}
use Rattle.sheet.specs.Keys.{key_of, is_name}
use Rattle.sheet.specs.Numbers.{largest}
use Rattle.sheet.specs.Sheet.{sheet_lines, side_most, line_length, values_of, Within}
use Rattle.sheet.specs.declared.Line.{Line}

-- no newline in its key; the sixteen modes, or a number that can be written
abbrev free_key : Line → Bool
free_key l = eqb (line_length (key_of l.key)) (length (key_of l.key))

abbrev right_top : Bool → ℕ → Bool
right_top named top = cond named (eqb top 15) (leb top largest)

unfoldable pub is_line : Line → Bool
is_line l = free_key l && right_top (is_name l.key) l.top

abbrev pub are_lines : List Line → Bool
are_lines [] = true
are_lines (l ∷ ls) = is_line l && are_lines ls

module _ (l : Line) (t : T (is_line l)) where
  pub key-free : line_length (key_of l.key) ≡ length (key_of l.key)
  unfolding is_line
  key-free = eqb→eq (line_length (key_of l.key)) (length (key_of l.key)) (both_left (free_key l) (right_top (is_name l.key) l.top) t)

  top-is : (named : Bool) → is_name l.key ≡ named → T (right_top named l.top)
  unfolding is_line
  top-is named e = subst (λ (b : Bool). T (right_top b l.top)) e (both_right (free_key l) (right_top (is_name l.key) l.top) t)

  pub mode-top : is_name l.key ≡ true → l.top ≡ 15
  mode-top e = eqb→eq l.top 15 (top-is true e)

  pub number-top : is_name l.key ≡ false → l.top ≤ largest
  number-top e = leb→le l.top largest (top-is false e)

pub eight-lines : T (are_lines sheet_lines)
unfolding sheet_lines is_line key_of line_length
eight-lines = tt

-- the limits that the code asks for
pub record Bounded (z : Settings) : Type 0 where
  pub known : z.mode ≤ 15
  pub wide : z.columns ≤ side_most
  pub high : z.rows ≤ side_most

pub bounded : (z : Settings) → Within sheet_lines (values_of z) → Bounded z
unfolding sheet_lines
bounded z w = record { known = w.0; wide = w.1.1.1.1.1.1.0; high = w.1.1.1.1.1.1.1.0 }

pub area_small : {z : Settings} → Bounded z → z.columns * z.rows ≤ side_most * side_most
area_small b = mul-le-mul {n₂ = side_most} b.wide b.high
