-- The packing of every native tile: it is sound, and has the tile's pixels, depth and bytes.
-- Assumes nothing.
use mathlib.Core.Path.{◌≡◌}
use mathlib.Core.Bool.{Bool, ◌&&◌}
use Prim.Native.Nat.{ℕ, ◌*◌, ◌/◌, ◌<◌, ◌≤◌}
use lib.Dec.{T, leb, eqb, leb→le, eqb→eq}
use Rattle.words.specs.Inner.{all}
use Rattle.words.proofs.Loops.{both_left, both_right, all-at}
use Rattle.mode.specs.Table.{row, one_of, has_depth}
use Rattle.tile.specs.Packings.{layout_in}
use Rattle.tile.specs.Inner.{pixel_count, byte_count, is_packing}
use Rattle.tile.specs.Tile.{packing_of, widths, heights, is_native}
use Rattle.tile.proofs.Packings.{in_each, each_at}

pub record Native (m d w h : ℕ) : Type 0 where
  pub mode : m < 16
  pub depth : T (has_depth m d)
  pub size : T (is_native m w h)

-- ---- the packing, by one test over the modes, their depths and their sizes

pub record Fitting (m d w h : ℕ) : Type 0 where
  pub sound : T (is_packing (packing_of m d w h))
  pub pixels : pixel_count (packing_of m d w h) ≡ w * h
  pub bits : (layout_in (packing_of m d w h)).pixels.bits ≡ d
  pub bytes : byte_count (packing_of m d w h) ≡ w * h * d / 8
  pub deep : d ≤ 8
  pub few : w * h ≤ 2048
  pub small : w * h * d ≤ 16384

abbrev fits : ℕ → ℕ → ℕ → ℕ → Bool
fits m d w h =
    (is_packing (packing_of m d w h) && eqb (pixel_count (packing_of m d w h)) (w * h))
    && ((eqb (layout_in (packing_of m d w h)).pixels.bits d && eqb (byte_count (packing_of m d w h)) (w * h * d / 8))
    && (leb d 8 && (leb (w * h) 2048 && leb (w * h * d) 16384)))

abbrev fits_at : ℕ → ℕ → Bool
fits_at m d = in_each (widths m) (λ w. in_each (heights m) (fits m d w))

all_fit : T (all 16 (λ m. in_each (row m).depths (fits_at m)))
unfolding row packing_of
all_fit = tt

pub fitting : {m d w h : ℕ} → Native m d w h → Fitting m d w h
fitting {m} {d} {w} {h} n =
    let depths = all-at 16 (λ m. in_each (row m).depths (fits_at m)) all_fit m n.mode in
    let wide = both_left (one_of w (widths m)) (one_of h (heights m)) n.size in
    let tall = both_right (one_of w (widths m)) (one_of h (heights m)) n.size in
    let at-depth : T (fits_at m d) = each_at (row m).depths (fits_at m) depths d n.depth in
    let at_width : T (in_each (heights m) (fits m d w)) = each_at (widths m) (λ w. in_each (heights m) (fits m d w)) at-depth w wide in
    let here : T (fits m d w h) = each_at (heights m) (fits m d w) at_width h tall in
    let p = packing_of m d w h in
    let a = is_packing p && eqb (pixel_count p) (w * h) in
    let b = eqb (layout_in p).pixels.bits d && eqb (byte_count p) (w * h * d / 8) in
    let e = leb (w * h) 2048 && leb (w * h * d) 16384 in
    let c = leb d 8 && e in
    let ta = both_left a (b && c) here in
    let tb = both_left b c (both_right a (b && c) here) in
    let tc = both_right b c (both_right a (b && c) here) in
    let te = both_right (leb d 8) e tc in
    record {
      sound = both_left (is_packing p) (eqb (pixel_count p) (w * h)) ta;
      pixels = eqb→eq (pixel_count p) (w * h) (both_right (is_packing p) (eqb (pixel_count p) (w * h)) ta);
      bits = eqb→eq (layout_in p).pixels.bits d (both_left (eqb (layout_in p).pixels.bits d) (eqb (byte_count p) (w * h * d / 8)) tb);
      bytes = eqb→eq (byte_count p) (w * h * d / 8) (both_right (eqb (layout_in p).pixels.bits d) (eqb (byte_count p) (w * h * d / 8)) tb);
      deep = leb→le d 8 (both_left (leb d 8) e tc);
      few = leb→le (w * h) 2048 (both_left (leb (w * h) 2048) (leb (w * h * d) 16384) te);
      small = leb→le (w * h * d) 16384 (both_right (leb (w * h) 2048) (leb (w * h * d) 16384) te);
    }
