-- What the checks of a set say where they pass.
-- Assumes nothing.
use mathlib.Core.Path.{◌≡◌, refl, sym, subst}
use mathlib.Core.Bool.{Bool, true, false, not, ◌&&◌, ◌||◌}
use mathlib.Core.List.{List, [], ◌∷◌}
use Prim.Native.Nat.{ℕ, ◌*◌, ◌/◌, ◌<◌, ◌≤◌}
use native.Mathlib.Omega.{arith}
use lib.Dec.{T, ltb, leb, eqb, ltb→lt, leb→le, eqb→eq}
use lib.ListN.{get_or}
use borrow.Author.Tests.{ltb-false, not-false, ne_eqb}
use Rattle.words.proofs.Answers.{all-passed, not-given}
use Rattle.words.proofs.Loops.{both_left, both_right, all-at}
use Rattle.mode.specs.Table.{row, one_of, has_depth, pce-sprite}
use Rattle.tileset.specs.Sets.{widths, heights, is_width, is_height, is_size, set_checks, set_says}
use Rattle.tileset.specs.Numbers.{row_cells, grid_checks, grid_says, Grid}

-- a test over each of some numbers, as a rule at each
abbrev in_each : List ℕ → (ℕ → Bool) → Bool
in_each [] f = true
in_each (x ∷ xs) f = f x && in_each xs f

each-case : (y : ℕ) (ys : List ℕ) (f : ℕ → Bool) (x : ℕ) (b : Bool) → eqb x y ≡ b → T (f y) → (T (one_of x ys) → T (f x)) → T (one_of x (y ∷ ys)) → T (f x)
each-case y ys f x true e here rest o = subst (λ (z : ℕ). T (f z)) (sym (eqb→eq x y (subst T (sym e) tt))) here
each-case y ys f x false e here rest o = rest (subst (λ (b : Bool). T (b || one_of x ys)) e o)

each_at : (xs : List ℕ) (f : ℕ → Bool) → T (in_each xs f) → (x : ℕ) → T (one_of x xs) → T (f x)
each_at [] f t x o = absurd o
each_at (y ∷ ys) f t x o =
    each-case y ys f x (eqb x y) refl (both_left (f y) (in_each ys f) t) (each_at ys f (both_right (f y) (in_each ys f) t) x) o

-- ---- a set's depth and size, by one test over the modes, their depths and their sizes

pub record IsSet (m d w h : ℕ) : Type 0 where
  pub mode : m < 16
  pub depth : T (has_depth m d)
  pub size : T (is_size m w h)
  pub deep : d ≤ 8
  pub some : 0 < w
  pub tall : 0 < h
  pub small : w * h ≤ 4096
  pub across : w ≡ w / 8 * 8
  pub down : h ≡ h / 8 * 8

abbrev size_test : ℕ → ℕ → Bool
size_test w h = (ltb 0 w && (ltb 0 h && leb (w * h) 4096)) && (eqb w (w / 8 * 8) && eqb h (h / 8 * 8))

deep_in : (m d : ℕ) → m < 16 → T (has_depth m d) → d ≤ 8
unfolding row
deep_in m d lt t =
    leb→le d 8 (each_at (row m).depths (λ d. leb d 8) (all-at 16 (λ m. in_each (row m).depths (λ d. leb d 8)) tt m lt) d t)

pub bits-some : {m d w h : ℕ} → IsSet m d w h → 0 < d
unfolding row
bits-some {m} {d} s =
    ltb→lt 0 d (each_at (row m).depths (λ d. ltb 0 d) (all-at 16 (λ m. in_each (row m).depths (λ d. ltb 0 d)) tt m s.mode) d s.depth)

sized-in : (m w h : ℕ) → m < 16 → T (is_size m w h) → T (size_test w h)
sized-in m w h lt t =
    each_at (heights m) (size_test w)
    (each_at (widths m) (λ w. in_each (heights m) (size_test w)) (all-at 16 (λ m. in_each (widths m) (λ w. in_each (heights m) (size_test w))) tt m lt)
    w (both_left (is_width m w) (is_height m h) t)) h (both_right (is_width m w) (is_height m h) t)

holds : (b : Bool) → not b ≡ false → T b
holds b e = subst T (sym (not-false b e)) tt

pub set-of : (m d w h : ℕ) → set_says m d w h ≡ 0 → IsSet m d w h
unfolding set_says
set-of m d w h z =
    let passed : (k : ℕ) → get_or (set_checks m d w h) k 0 ≡ 0 = all-passed (set_checks m d w h) z in
    let lt : m < 16 = omega (arith, ltb-false 15 m (not-given 0 (ltb 15 m) (passed 0))) in
    let depth : T (has_depth m d) = holds (has_depth m d) (not-given 2 (not (has_depth m d)) (passed 1)) in
    let size : T (is_size m w h) = holds (is_size m w h) (not-given 3 (not (is_size m w h)) (passed 2)) in
    let test : T (size_test w h) = sized-in m w h lt size in
    let a = ltb 0 w && (ltb 0 h && leb (w * h) 4096) in
    let b = eqb w (w / 8 * 8) && eqb h (h / 8 * 8) in
    let first : T a = both_left a b test in
    let eighths : T b = both_right a b test in
    let rest : T (ltb 0 h && leb (w * h) 4096) = both_right (ltb 0 w) (ltb 0 h && leb (w * h) 4096) first in
    record {
      mode = lt;
      depth = depth;
      size = size;
      deep = deep_in m d lt depth;
      some = ltb→lt 0 w (both_left (ltb 0 w) (ltb 0 h && leb (w * h) 4096) first);
      tall = ltb→lt 0 h (both_left (ltb 0 h) (leb (w * h) 4096) rest);
      small = leb→le (w * h) 4096 (both_right (ltb 0 h) (leb (w * h) 4096) rest);
      across = eqb→eq w (w / 8 * 8) (both_left (eqb w (w / 8 * 8)) (eqb h (h / 8 * 8)) eighths);
      down = eqb→eq h (h / 8 * 8) (both_right (eqb w (w / 8 * 8)) (eqb h (h / 8 * 8)) eighths);
    }

-- ---- the same for the grid of cells, in every mode but pce_sprite

abbrev grid_test : ℕ → ℕ → ℕ → Bool
grid_test r h v = (eqb r (r / h * h) && ltb 0 (r / h)) && ((ltb 0 h && ltb 0 v) && (leb r 16 && leb v 8))

abbrev size_grid : ℕ → ℕ → ℕ → Bool
size_grid m w h = grid_test (row_cells m) (w / 8) (h / 8)

abbrev grid_tests : ℕ → Bool
grid_tests m = eqb m pce-sprite || in_each (widths m) (λ w. in_each (heights m) (size_grid m w))

other-than : (a b : Bool) → a ≡ false → T (a || b) → T b
other-than true b e t = absurd (subst T e tt)
other-than false b e t = t

grid-in : (m w h : ℕ) → m < 16 → eqb m pce-sprite ≡ false → T (is_size m w h) → T (size_grid m w h)
grid-in m w h lt other t =
    let here : T (in_each (widths m) (λ w. in_each (heights m) (size_grid m w))) =
    other-than (eqb m pce-sprite) (in_each (widths m) (λ w. in_each (heights m) (size_grid m w))) other (all-at 16 grid_tests tt m lt) in
    each_at (heights m) (size_grid m w)
    (each_at (widths m) (λ w. in_each (heights m) (size_grid m w)) here w (both_left (is_width m w) (is_height m h) t))
    h (both_right (is_width m w) (is_height m h) t)

grid-from : (r h v : ℕ) → T (grid_test r h v) → Grid r h v
grid-from r h v test =
    let a = eqb r (r / h * h) in
    let b = ltb 0 (r / h) in
    let c = ltb 0 h in
    let d = ltb 0 v in
    let e = leb r 16 in
    let f = leb v 8 in
    let first : T (a && b) = both_left (a && b) ((c && d) && (e && f)) test in
    let rest : T ((c && d) && (e && f)) = both_right (a && b) ((c && d) && (e && f)) test in
    let second : T (c && d) = both_left (c && d) (e && f) rest in
    let third : T (e && f) = both_right (c && d) (e && f) rest in
    record {
      row = eqb→eq r (r / h * h) (both_left a b first);
      tiles = ltb→lt 0 (r / h) (both_right a b first);
      across = ltb→lt 0 h (both_left c d second);
      down = ltb→lt 0 v (both_right c d second);
      narrow = leb→le r 16 (both_left e f third);
      low = leb→le v 8 (both_right e f third);
    }

-- a set of another mode has a grid
pub grid-set : {m d w h : ℕ} → IsSet m d w h → (m ≡ pce-sprite → ⊥) → Grid (row_cells m) (w / 8) (h / 8)
grid-set {m} {w} {h} s other = grid-from (row_cells m) (w / 8) (h / 8) (grid-in m w h s.mode (ne_eqb m pce-sprite other) s.size)

pub grid-of : (m w h : ℕ) → grid_says m w h ≡ 0 → Grid (row_cells m) (w / 8) (h / 8)
unfolding grid_says
grid-of m w h z =
    let passed : (k : ℕ) → get_or (grid_checks m w h) k 0 ≡ 0 = all-passed (grid_checks m w h) z in
    let lt : m < 16 = omega (arith, ltb-false 15 m (not-given 0 (ltb 15 m) (passed 0))) in
    let size : T (is_size m w h) = holds (is_size m w h) (not-given 3 (not (is_size m w h)) (passed 2)) in
    grid-from (row_cells m) (w / 8) (h / 8) (grid-in m w h lt (not-given 1 (eqb m pce-sprite) (passed 1)) size)
