-- What a conversion gives: where each tile is found, how many are stored, the entries, and how many bytes.
-- Assumes nothing.
use mathlib.Core.Path.{◌≡◌, refl, sym, ap, ◌∙◌, subst}
use mathlib.Core.Bool.{Bool, true, false, ◌&&◌}
use mathlib.Core.List.{List, []}
use Prim.Native.Nat.{ℕ, suc, ◌+◌, ◌*◌, ◌^◌, ◌<◌, ◌≤◌}
use native.Mathlib.Nat.{lt_of_lt_of_le}
use native.Mathlib.Omega.{arith}
use lib.Dec.{eqb}
use lib.ListN.{length, get_or}
use lib.Pow.{pow_pos, pow_mono}
use borrow.Author.Tests.{eqb-false}
use Rattle.words.specs.Bytes.{bit}
use Rattle.words.proofs.Bytes.{length-bytes}
use Rattle.words.proofs.Loops.{length-each}
use Rattle.mode.specs.Table.{row}
use Rattle.mapentry.specs.Entry.{most_first, entry_word, entry_bytes, IsEntry}
use Rattle.mapentry.specs.declared.Mapentry.{Mapentry}
use Rattle.mapentry.proofs.Laws.{Fitting, fits_all}
use Rattle.tile.specs.Tile.{packed}
use Rattle.tile.proofs.Native.{Native}
use Rattle.flip.specs.declared.Flip.{Flip}
use Rattle.flip.proofs.Equivalence.{Allowed}
use Rattle.tileset.specs.Finding.{look_up, is_found}
use Rattle.tileset.specs.declared.Found.{Found}
use Rattle.tileset.specs.declared.Found.TheVariants.{At, Nothing}
use Rattle.tileset.proofs.WritingLaws.{packed-length}
use Rattle.picture.specs.Cells.{cut_tile, cut_tiles}
use Rattle.tileset.specs.Keeping.{kept}
use Rattle.picture.specs.Entries.{entry_for}
use Rattle.picture.specs.Converting.{places, picture_tiles, stored_of, need_of, discarded_of, tile_bytes_of, found_at, map_bytes_of}
use Rattle.picture.specs.Inner.{IsPicture}
use Rattle.picture.specs.declared.Settings.{Settings}
use Rattle.tileset.proofs.Keeping.{kept-need, need-discarded}
use Rattle.tileset.proofs.Search.{look-told}
use Rattle.picture.proofs.Kept.{cut_tiles-at, found_here, found-final, length-cut_tiles}
use Rattle.tileset.proofs.NumberLaws.{first-8}
use Rattle.picture.proofs.Checks.{native-tile}

pub bit-small : (b : Bool) → bit b ≤ 1
bit-small true = omega arith
bit-small false = omega arith

-- a flip fits an entry of a mode that has flips where they are on, and of any mode where they are off
flip-fits : (on : Bool) (flips : ℕ) (f : Flip) → (on && eqb flips 0) ≡ false → Allowed on f → (bit f.h < 2 ^ flips) × (bit f.v < 2 ^ flips)
flip-fits true flips f e al =
    let two : 2 ^ 1 ≤ 2 ^ flips = pow_mono {i = 1} {j = flips} (omega (arith, eqb-false flips 0 e)) in
    (omega (arith, bit-small f.h), omega (arith, bit-small f.v))
flip-fits false flips f e al = rw (al.0, al.1) (pow_pos flips, pow_pos flips)

-- bytes of one tile, and of one entry
pub packed-size : {m d : ℕ} → Native m d 8 8 → (t : List ℕ) → length (packed m d 8 8 t) ≡ d * 8
packed-size n t = packed-length n t ∙ omega arith

pub entry-size : (m : ℕ) (e : Mapentry) → length (entry_bytes m e) ≡ (row m).entry
entry-size m e = length-bytes (row m).entry (most_first m) (entry_word m e)

module _ (w h : ℕ) (some : 0 < w) (z : Settings) (pixels : List ℕ) where
  -- ---- the tiles

  pub length-tiles : length (picture_tiles w h z pixels) ≡ places z
  unfolding picture_tiles
  length-tiles = length-cut_tiles z.depth w h z.columns pixels (places z)

  pub tile-is : (i : ℕ) → i < places z → get_or (picture_tiles w h z pixels) i [] ≡ cut_tile z.depth w h z.columns pixels i
  unfolding picture_tiles
  tile-is i lt = cut_tiles-at z.depth w h z.columns pixels (places z) i lt

  -- a tile is found where it was found right after it was taken
  pub found-taken : (i : ℕ) → i < places z
      → found_at w h z pixels i
      ≡ look_up z.flip w h (kept z.discard z.flip w h (cut_tiles z.depth w h z.columns pixels (suc i))) (cut_tile z.depth w h z.columns pixels i)
  unfolding found_at stored_of picture_tiles kept
  found-taken i lt =
      ap (look_up z.flip w h (stored_of w h z pixels)) (tile-is i lt)
      ∙ found-final z.discard z.flip z.depth w h z.columns pixels [] some (places z) i lt

  pub is_found_lem : (i : ℕ) → i < places z → is_found (found_at w h z pixels i) ≡ true
  unfolding kept
  is_found_lem i lt = ap is_found (found-taken i lt) ∙ found_here z.discard z.flip z.depth w h z.columns pixels [] some i

  -- ---- counts

  pub stored-need : length (stored_of w h z pixels) ≡ need_of w h z pixels
  unfolding stored_of need_of
  stored-need = kept-need z.flip w h some z.discard (picture_tiles w h z pixels)

  pub stored-discarded : length (stored_of w h z pixels) + discarded_of w h z pixels ≡ places z
  unfolding need_of discarded_of
  stored-discarded =
      ap (λ (n : ℕ). n + discarded_of w h z pixels) stored-need ∙ need-discarded z.flip w h z.discard (picture_tiles w h z pixels) ∙ length-tiles

-- ---- entries

-- what a look-up among tiles that the entries can name finds, as an entry
module _ {z : Settings} {len : ℕ} (s : IsPicture z len) (tiles : List (List ℕ)) (t : List ℕ) (room : length tiles ≤ 2 ^ (row z.mode).tile) where
  fits-case : (r : Found) → look_up z.flip 8 8 tiles t ≡ r → Fitting z.mode (entry_for z.mode 8 8 z.palette r)
  fits-case (At k f) e =
      let told = look-told z.flip 8 8 t tiles e in
      let flips = flip-fits z.flip (row z.mode).flips f s.flips told.1.0 in
      record {
        tile = subst (λ (n : ℕ). n < 2 ^ (row z.mode).tile) (sym (first-8 z.mode k.0)) (lt_of_lt_of_le told.0 room);
        palette = s.palette;
        h = flips.0;
        v = flips.1;
        priority = pow_pos (row z.mode).priority;
      }
  fits-case Nothing e =
      record {
        tile = pow_pos (row z.mode).tile;
        palette = s.palette;
        h = pow_pos (row z.mode).flips;
        v = pow_pos (row z.mode).flips;
        priority = pow_pos (row z.mode).priority;
      }

  pub look-fits : IsEntry z.mode (entry_for z.mode 8 8 z.palette (look_up z.flip 8 8 tiles t))
  look-fits =
      record {
        mode = s.mode;
        map = s.map;
        fits = fits_all z.mode (entry_for z.mode 8 8 z.palette (look_up z.flip 8 8 tiles t)) (fits-case (look_up z.flip 8 8 tiles t) refl);
      }

pub found-fits : (z : Settings) (pixels : List ℕ) → IsPicture z (length pixels) → length (stored_of 8 8 z pixels) ≤ 2 ^ (row z.mode).tile
    → (i : ℕ) → IsEntry z.mode (entry_for z.mode 8 8 z.palette (found_at 8 8 z pixels i))
unfolding found_at
found-fits z pixels s room i = look-fits s (stored_of 8 8 z pixels) (get_or (picture_tiles 8 8 z pixels) i []) room

module _ (z : Settings) (pixels : List ℕ) where
  -- ---- bytes

  pub tile-bytes-length : IsPicture z (length pixels) → length (tile_bytes_of z pixels) ≡ length (stored_of 8 8 z pixels) * (z.depth * 8)
  unfolding tile_bytes_of
  tile-bytes-length s =
      length-each (length (stored_of 8 8 z pixels)) (z.depth * 8) (λ k. packed z.mode z.depth 8 8 (get_or (stored_of 8 8 z pixels) k []))
      (λ k. packed-size (native-tile s.mode s.map s.depth) (get_or (stored_of 8 8 z pixels) k []))

  pub map-bytes-length : length (map_bytes_of z pixels) ≡ places z * (row z.mode).entry
  unfolding map_bytes_of
  map-bytes-length =
      length-each (places z) (row z.mode).entry (λ i. entry_bytes z.mode (entry_for z.mode 8 8 z.palette (found_at 8 8 z pixels i)))
      (λ i. entry-size z.mode (entry_for z.mode 8 8 z.palette (found_at 8 8 z pixels i)))
