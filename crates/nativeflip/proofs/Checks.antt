-- What number 0 says of a tile, and how a flipped one meets the promise.
-- Assumes nothing.
use mathlib.Core.Path.{◌≡◌, sym, ap, ◌∙◌, subst}
use mathlib.Core.Bool.{Bool, false, not, ◌&&◌, ◌||◌}
use mathlib.Core.List.{List}
use Prim.Native.Nat.{ℕ, ◌*◌, ◌<◌, ◌≤◌}
use native.Mathlib.Omega.{arith}
use lib.Dec.{T, ltb, eqb, eqb→eq}
use lib.ListN.{length, get_or}
use lib.Seq.{sets}
use borrow.Author.Tests.{ltb-false, not-false, eqb-true}
use Rattle.words.specs.Answers.{overwrite}
use Rattle.words.specs.Inner.{all}
use Rattle.words.proofs.Answers.{all-passed, not-given}
use Rattle.words.proofs.Loops.{both_left, both_right, all-at, sets-front}
use Rattle.mode.specs.Table.{row, has_depth, pce-sprite}
use Rattle.tile.specs.Inner.{byte_count, packed_in, unpacked_in}
use Rattle.tile.specs.Tile.{packing_of, tile_says, unpacked}
use Rattle.tile.specs.declared.Packing.{Packing}
use Rattle.tile.proofs.Laws.{packed-length}
use Rattle.tile.proofs.Packings.{in_each, each_at}
use Rattle.flip.specs.Flips.{flipped}
use Rattle.flip.specs.declared.Flip.{Flip}
use Rattle.nativeflip.specs.Flipping.{flip_checks, flip_says, flipped_bytes}
use Rattle.nativeflip.specs.Inner.{is_cell, HasTile}

-- ---- the packing, by one test over the modes but pce_sprite and their depths

abbrev fits : ℕ → ℕ → Bool
fits m d = is_cell (packing_of m d 8 8) && (eqb (byte_count (packing_of m d 8 8)) (d * 8) && eqb (tile_says m d 8 8) 0)

abbrev cells_at : ℕ → Bool
cells_at m = eqb m pce-sprite || in_each (row m).depths (fits m)

all-cells : T (all 16 cells_at)
unfolding row packing_of tile_says
all-cells = tt

or_right : (a b : Bool) → a ≡ false → T (a || b) → T b
or_right a b e t = rw e at t

-- what is known of a tile that is flipped
pub record Flippable (m d len space : ℕ) : Type 0 where
  pub mode : m < 16
  pub cell : T (is_cell (packing_of m d 8 8))
  pub bytes : byte_count (packing_of m d 8 8) ≡ d * 8
  pub allowed : tile_says m d 8 8 ≡ 0
  pub whole : len ≡ d * 8
  pub fits : d * 8 ≤ space

pub flippable : (m d len space : ℕ) → flip_says m d len space ≡ 0 → Flippable m d len space
unfolding flip_says
flippable m d len space z =
    let passed : (k : ℕ) → get_or (flip_checks m d len space) k 0 ≡ 0 = all-passed (flip_checks m d len space) z in
    let mode : m < 16 = omega (arith, ltb-false 15 m (not-given 0 (ltb 15 m) (passed 0))) in
    let depth : T (has_depth m d) = subst T (sym (not-false (has_depth m d) (not-given 2 (not (has_depth m d)) (passed 2)))) tt in
    let depths = or_right (eqb m pce-sprite) (in_each (row m).depths (fits m)) (not-given 1 (eqb m pce-sprite) (passed 1)) (all-at 16 cells_at all-cells m mode) in
    let here : T (fits m d) = each_at (row m).depths (fits m) depths d depth in
    let p = packing_of m d 8 8 in
    let a = eqb (byte_count p) (d * 8) in
    let b = eqb (tile_says m d 8 8) 0 in
    record {
      mode = mode;
      cell = both_left (is_cell p) (a && b) here;
      bytes = eqb→eq (byte_count p) (d * 8) (both_left a b (both_right (is_cell p) (a && b) here));
      allowed = eqb→eq (tile_says m d 8 8) 0 (both_right a b (both_right (is_cell p) (a && b) here));
      whole = eqb-true len (d * 8) (not-false (eqb len (d * 8)) (not-given 6 (not (eqb len (d * 8))) (passed 3)));
      fits = ltb-false space (d * 8) (not-given 10 (ltb space (d * 8)) (passed 4));
    }

-- ---- the call

module _ {p : Packing} (m d : ℕ) (bytes out : List ℕ) (e : p ≡ packing_of m d 8 8) (z : flip_says m d (length bytes) (length out) ≡ 0) where
  known : Flippable m d (length bytes) (length out)
  known = flippable m d (length bytes) (length out) z

  pub flip_asks : HasTile p bytes out
  flip_asks =
      subst (λ (x : Packing). HasTile x bytes out) (sym e)
      (record { cell = known.cell; whole = known.whole ∙ sym known.bytes; space = omega (arith, known.whole, known.fits) })

  pub flip-length : (f : Flip) → length bytes ≡ length (flipped_bytes m d f bytes)
  unfolding flipped_bytes
  flip-length f = omega (arith, packed-length m d 8 8 known.allowed (flipped f 8 8 (unpacked m d 8 8 bytes)), known.whole)

  pub flip-leaves : (f : Flip) → sets out 0 (packed_in p (flipped f 8 8 (unpacked_in p bytes))) ≡ overwrite out (flipped_bytes m d f bytes)
  unfolding flipped_bytes
  flip-leaves f =
      ap (λ (x : Packing). sets out 0 (packed_in x (flipped f 8 8 (unpacked_in x bytes)))) e
      ∙ sets-front out (flipped_bytes m d f bytes) (omega (arith, flip-length f, known.whole, known.fits))
