-- "Where several apply, the lowest number is given": of a redrawing's checks, and of a conversion's with 10 for the palette index's number.
-- Assumes nothing.
use mathlib.Core.Path.{◌≡◌, refl, sym, ap, ◌∙◌}
use mathlib.Core.Bool.{false, not, ◌&&◌}
use mathlib.Core.List.{List, [], ◌∷◌, map}
use Prim.Native.Nat.{ℕ, ◌*◌, ◌%◌}
use lib.Dec.{ltb, eqb}
use lib.ListN.{length}
use Rattle.words.specs.Answers.{lowest, overwrite}
use Rattle.words.specs.Loops.{some}
use Rattle.words.proofs.Order.{gives-when, first-lowest}
use Rattle.mode.specs.Table.{row, has_depth, pce-sprite}
use Rattle.mapentry.specs.Entry.{misfit_of}
use Rattle.mapentry.proofs.Stood.{stood, stood-unless, stood-first, stood-when, stood-misfit}
use Rattle.picture.specs.Entries.{entry_as}
use Rattle.picture.specs.Converting.{places, need_of, tile_bytes_of, map_bytes_of, picture_room, is_span, convert_checks, convert_says, pictured, Converts}
use Rattle.picture.specs.Redrawing.{names_more, redraw_checks, redraw_says}
use Rattle.picture.specs.declared.Settings.{Settings}
use Rattle.picture.specs.declared.Picture.{Picture}
use Rattle.picture.proofs.Room.{◌also◌}

pub convert-stood : (z : Settings) (pixels : List ℕ) (tile_space map_space : ℕ)
    → stood (convert_says z pixels tile_space map_space) ≡ lowest (map stood (convert_checks z pixels tile_space map_space))
unfolding convert_says
convert-stood z pixels tile_space map_space =
    stood-first (convert_checks z pixels tile_space map_space)
    ∙ first-lowest (1 ∷ 2 ∷ 3 ∷ 4 ∷ 5 ∷ 7 ∷ 10 ∷ 11 ∷ 12 ∷ []) (map stood (convert_checks z pixels tile_space map_space)) tt
    (stood-when 1 (ltb 15 z.mode) refl
    also stood-when 2 (eqb z.mode pce-sprite) refl
    also stood-when 3 (not (has_depth z.mode z.depth)) refl
    also stood-when 4 (not (is_span z.columns && is_span z.rows)) refl
    also stood-when 5 (z.flip && eqb (row z.mode).flips 0) refl
    also stood-when 7 (not (eqb (length pixels) (64 * places z))) refl
    also stood-misfit (misfit_of z.mode (entry_as 0 z.palette false false))
    also stood-when 11 (ltb map_space (places z * (row z.mode).entry)) refl
    also stood-when 12 (ltb (picture_room z tile_space) (need_of 8 8 z pixels)) refl
    also tt)

-- the answer that stood, and both buffers: all but the number is the same
abbrev pub picture_stood : Picture → Picture
picture_stood r =
    record {
      refusal = stood r.refusal;
      tiles = r.tiles;
      discarded = r.discarded;
      tile_bytes = r.tile_bytes;
      map_bytes = r.map_bytes;
    }

pictured-stood : (n a b c d : ℕ) → picture_stood (pictured n a b c d) ≡ pictured (stood n) a b c d
pictured-stood n a b c d = rw (stood-unless n a 0, stood-unless n b 0, stood-unless n c 0, stood-unless n d 0)

module _ {n : ℕ} {z : Settings} {pixels tiles map : List ℕ} {r : Picture} {tiles_after map_after : List ℕ} where
  pub converts-stood : Converts n z pixels tiles map r tiles_after map_after → Converts (stood n) z pixels tiles map (picture_stood r) tiles_after map_after
  converts-stood c =
      record {
        answer = ap picture_stood c.answer ∙ pictured-stood n _ _ _ _;
        lent = c.lent ∙ sym (stood-unless n (overwrite tiles (tile_bytes_of z pixels)) tiles);
        also_lent = c.also_lent ∙ sym (stood-unless n (overwrite map (map_bytes_of z pixels)) map);
      }

pub redraw-lowest : (m d columns rows : ℕ) (tiles map : List ℕ) (space : ℕ) → redraw_says m d columns rows tiles map space ≡ lowest (redraw_checks m d columns rows tiles map space)
unfolding redraw_says
redraw-lowest m d columns rows tiles map space =
    first-lowest (1 ∷ 2 ∷ 3 ∷ 4 ∷ 7 ∷ 7 ∷ 7 ∷ 11 ∷ []) (redraw_checks m d columns rows tiles map space) tt (gives-when 1 (ltb 15 m)
    also gives-when 2 (eqb m pce-sprite)
    also gives-when 3 (not (has_depth m d))
    also gives-when 4 (not (is_span columns && is_span rows))
    also gives-when 7 (not (eqb (length tiles % (d * 8)) 0))
    also gives-when 7 (not (eqb (length map) (columns * rows * (row m).entry)))
    also gives-when 7 (some (columns * rows) (names_more m d (length tiles) map))
    also gives-when 11 (ltb space (64 * (columns * rows)))
    also tt)
