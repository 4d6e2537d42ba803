-- The laws of document 01's "Pictures", as a reader wants them.
-- Assumes nothing.
use mathlib.Core.Path.{◌≡◌, sym, ap, ◌∙◌, subst}
use mathlib.Core.Bool.{Bool, true, false}
use mathlib.Core.List.{List, map}
use Prim.Native.Nat.{ℕ, suc, ◌+◌, ◌*◌, ◌<◌, ◌≤◌}
use native.Mathlib.Omega.{arith}
use lib.ListN.{length, take, drop}
use lib.Seq.{take_at}
use Rattle.words.specs.Answers.{first_applying, unless, overwrite, Wrote}
use Rattle.words.specs.declared.Written.{Written}
use Rattle.words.proofs.Answers.{when-done, when-refused}
use Rattle.tileset.specs.Finding.{look_up, is_found, cut_to}
use Rattle.tileset.specs.Sets.{room_in, new_set}
use Rattle.tileset.specs.Writing.{set_bytes}
use Rattle.tileset.specs.Matched.{Apart}
use Rattle.tileset.specs.Keeping.{kept, discarded}
use Rattle.tileset.specs.History.{set_at_end, store_at_end, accepted as adds, set_tiles}
use Rattle.tileset.specs.declared.Set.{Set}
use Rattle.picture.specs.Cells.{cut_tile, cut_tiles}
use Rattle.picture.specs.Converting.{places, picture_tiles, stored_of, need_of, discarded_of, tile_bytes_of, found_at, map_bytes_of, picture_room, size_says, asked_checks, convert_says, Converts}
use Rattle.picture.specs.Continuing.{unpacked_tiles}
use Rattle.picture.specs.Redrawing.{drawn, redraw_says}
use Rattle.picture.specs.Inner.{asked_says}
use Rattle.picture.specs.declared.Settings.{Settings}
use Rattle.picture.specs.declared.Picture.{Picture}
use Rattle.picture.proofs.Cells.{some-8}
use Rattle.picture.proofs.Checks.{convert-12, convert-0, convert-passed}
use Rattle.tileset.proofs.Keeping.{kept-apart, none-discarded as off-none}
use Rattle.picture.proofs.Converted.{found-taken, is_found_lem, stored-need, stored-discarded}
use Rattle.picture.proofs.Room.{convert-full}
use Rattle.picture.proofs.ByAdding.{tiles-accepted, tiles-stored, tiles-count, tiles-sum, tiles-cut, tiles-bytes}
use Rattle.picture.proofs.Redrawn.{tiles-fit, map-fits, tiles-back, redraw-accepted, drawn-back}

-- ---- an accepted picture is drawn again: what the conversion wrote is accepted by redrawing, and gives the picture, cut to the depth

pub redrawn-back : (z : Settings) (pixels : List ℕ) (tile_space map_space space : ℕ) → convert_says z pixels tile_space map_space ≡ 0 → 64 * places z ≤ space
    → (redraw_says z.mode z.depth z.columns z.rows (tile_bytes_of z pixels) (map_bytes_of z pixels) space ≡ 0)
    × (drawn z.mode z.depth z.columns z.rows (tile_bytes_of z pixels) (map_bytes_of z pixels) ≡ cut_to z.depth pixels)
redrawn-back z pixels tile_space map_space space done enough =
    (redraw-accepted z pixels tile_space map_space done space enough, drawn-back z pixels tile_space map_space done)

-- so two pictures of which the same bytes are written are the same, cut to the depth
pub alike-pictures : (z : Settings) (pixels others : List ℕ) (tile_space map_space tile_other map_other : ℕ)
    → convert_says z pixels tile_space map_space ≡ 0 → convert_says z others tile_other map_other ≡ 0
    → tile_bytes_of z pixels ≡ tile_bytes_of z others → map_bytes_of z pixels ≡ map_bytes_of z others → cut_to z.depth pixels ≡ cut_to z.depth others
alike-pictures z pixels others tile_space map_space tile_other map_other done also tiles map =
    sym (drawn-back z pixels tile_space map_space done)
    ∙ ap (λ (l : List ℕ). drawn z.mode z.depth z.columns z.rows l (map_bytes_of z pixels)) tiles
    ∙ ap (drawn z.mode z.depth z.columns z.rows (tile_bytes_of z others)) map
    ∙ drawn-back z others tile_other map_other also

-- both buffers of an accepted picture hold what is written
pub bytes_fit : (z : Settings) (pixels : List ℕ) (tile_space map_space : ℕ) → convert_says z pixels tile_space map_space ≡ 0
    → (length (tile_bytes_of z pixels) ≤ tile_space) × (length (map_bytes_of z pixels) ≤ map_space)
bytes_fit z pixels tile_space map_space done = (tiles-fit z pixels tile_space map_space done, map-fits z pixels tile_space map_space done)

-- ---- what a picture stores, names and discards, whatever the size of its tiles

module _ (w h : ℕ) (some : 0 < w) (z : Settings) (pixels : List ℕ) where
  on-apart : (discard : Bool) → discard ≡ true → Apart z.flip w h (kept discard z.flip w h (picture_tiles w h z pixels))
  on-apart discard on =
      subst (λ (b : Bool). Apart z.flip w h (kept b z.flip w h (picture_tiles w h z pixels))) (sym on) (kept-apart z.flip w h (picture_tiles w h z pixels))

  -- with discarding on, no two stored tiles match
  pub no-two-match : z.discard ≡ true → Apart z.flip w h (stored_of w h z pixels)
  unfolding stored_of
  no-two-match on = on-apart z.discard on

  -- every tile is found among those stored, so that its entry names one
  pub all_named : (i : ℕ) → i < places z → is_found (found_at w h z pixels i) ≡ true
  all_named i lt = is_found_lem w h some z pixels i lt

  -- "as by adding": an entry has the place and flip that a look-up finds right after its tile was taken
  pub named-when-taken : (i : ℕ) → i < places z
      → found_at w h z pixels i
      ≡ look_up z.flip w h (kept z.discard z.flip w h (cut_tiles z.depth w h z.columns pixels (suc i))) (cut_tile z.depth w h z.columns pixels i)
  named-when-taken i lt = found-taken w h some z pixels i lt

  -- need, counted from the pixels alone, is the number of tiles stored
  pub stored-needed : length (stored_of w h z pixels) ≡ need_of w h z pixels
  stored-needed = stored-need w h some z pixels

  -- each tile is stored or discarded
  pub all-counted : length (stored_of w h z pixels) + discarded_of w h z pixels ≡ places z
  all-counted = stored-discarded w h some z pixels

  -- with discarding off, none is discarded and all are stored
  pub none-discarded : z.discard ≡ false → discarded_of w h z pixels ≡ 0
  unfolding discarded_of
  none-discarded off =
      ap (λ (b : Bool). discarded b z.flip w h (picture_tiles w h z pixels)) off ∙ off-none z.flip w h (picture_tiles w h z pixels)

  pub all-stored : z.discard ≡ false → length (stored_of w h z pixels) ≡ places z
  all-stored off = omega (arith, all-counted, none-discarded off)

-- ---- "no room for the tiles": 12 and 0 are given exactly when no earlier check applies and need is above room, or is not

module _ (z : Settings) (pixels : List ℕ) (tile_space map_space : ℕ) where
  -- what the checks before the room's answer
  abbrev pub earlier : ℕ
  earlier = first_applying (asked_checks z (length pixels) map_space)

  pub refused-for-room : (convert_says z pixels tile_space map_space ≡ 12 → (earlier ≡ 0) × (picture_room z tile_space < need_of 8 8 z pixels))
      × (earlier ≡ 0 → picture_room z tile_space < need_of 8 8 z pixels → convert_says z pixels tile_space map_space ≡ 12)
  unfolding asked_says
  refused-for-room = (convert-full z pixels tile_space map_space, λ a lt. sym (convert-12 z pixels tile_space map_space a lt))

  pub done-with-room : (convert_says z pixels tile_space map_space ≡ 0 → (earlier ≡ 0) × (need_of 8 8 z pixels ≤ picture_room z tile_space))
      × (earlier ≡ 0 → need_of 8 8 z pixels ≤ picture_room z tile_space → convert_says z pixels tile_space map_space ≡ 0)
  unfolding asked_says
  done-with-room = (convert-passed z pixels tile_space map_space, convert-0 z pixels tile_space map_space)

-- ---- the same over what a caller sees of a conversion that answers 0: its answer, and the buffers as it leaves them

abbrev pub Done : Settings → List ℕ → List ℕ → List ℕ → Picture → List ℕ → List ℕ → Type 0
Done z pixels tiles map r tiles_after map_after =
    Converts (convert_says z pixels (length tiles) (length map)) z pixels tiles map r tiles_after map_after × (r.refusal ≡ 0)

front : (n : ℕ) (bytes before after : List ℕ) (k : ℕ) → n ≡ 0 → k ≡ unless n (length bytes) 0 → after ≡ unless n (overwrite before bytes) before → take k after ≡ bytes
front n bytes before after k z e q =
    ap (λ (l : List ℕ). take k l) (q ∙ when-done n (overwrite before bytes) before z)
    ∙ take_at bytes (drop (length bytes) before) k (sym (e ∙ when-done n (length bytes) 0 z))

module _ (z : Settings) (pixels tiles map : List ℕ) (r : Picture) (tiles_after map_after : List ℕ) (done : Done z pixels tiles map r tiles_after map_after) where
  says-0 : convert_says z pixels (length tiles) (length map) ≡ 0
  says-0 = sym (ap (λ (x : Picture). x.refusal) done.0.answer) ∙ done.1

  -- the written part of each buffer
  pub written-tiles : take r.tile_bytes tiles_after ≡ tile_bytes_of z pixels
  written-tiles =
      front (convert_says z pixels (length tiles) (length map)) (tile_bytes_of z pixels) tiles tiles_after r.tile_bytes says-0
      (ap (λ (x : Picture). x.tile_bytes) done.0.answer) done.0.lent

  pub written-map : take r.map_bytes map_after ≡ map_bytes_of z pixels
  written-map =
      front (convert_says z pixels (length tiles) (length map)) (map_bytes_of z pixels) map map_after r.map_bytes says-0
      (ap (λ (x : Picture). x.map_bytes) done.0.answer) done.0.also_lent

  -- redrawing the written parts is accepted, and gives the picture, cut to the depth
  pub redrawn-written : (space : ℕ) → 64 * places z ≤ space
      → (redraw_says z.mode z.depth z.columns z.rows (take r.tile_bytes tiles_after) (take r.map_bytes map_after) space ≡ 0)
      × (drawn z.mode z.depth z.columns z.rows (take r.tile_bytes tiles_after) (take r.map_bytes map_after) ≡ cut_to z.depth pixels)
  redrawn-written space enough = rw (written-tiles, written-map) (redrawn-back z pixels (length tiles) (length map) space says-0 enough)

  -- the counts of the answer
  pub counts : r.tiles + r.discarded ≡ places z
  counts =
      ap (λ (x : Picture). x.tiles + x.discarded) done.0.answer
      ∙ ap (λ (k : ℕ). unless k (length (stored_of 8 8 z pixels)) 0 + unless k (discarded_of 8 8 z pixels) 0) says-0
      ∙ all-counted 8 8 some-8 z pixels

  -- with discarding on, no two of the tiles that a caller unpacks from the written bytes match
  pub written_apart : z.discard ≡ true → Apart z.flip 8 8 (unpacked_tiles z (take r.tile_bytes tiles_after) r.tiles)
  written_apart on =
      let count : r.tiles ≡ length (stored_of 8 8 z pixels) = ap (λ (x : Picture). x.tiles) done.0.answer ∙ ap (λ (k : ℕ). unless k (length (stored_of 8 8 z pixels)) 0) says-0 in
      subst (Apart z.flip 8 8)
      (sym (ap (unpacked_tiles z (take r.tile_bytes tiles_after)) count
      ∙ ap (λ (l : List ℕ). unpacked_tiles z l (length (stored_of 8 8 z pixels))) written-tiles
      ∙ tiles-back z pixels (length tiles) (length map) says-0))
      (no-two-match 8 8 some-8 z pixels on)

-- two conversions that left the same written bytes were of the same picture, cut to the depth
pub alike-written : (z : Settings) (pixels tiles map : List ℕ) (r : Picture) (tiles_after map_after : List ℕ) → Done z pixels tiles map r tiles_after map_after
    → (others tiles_other map_other : List ℕ) (s : Picture) (tiles_final map_final : List ℕ) → Done z others tiles_other map_other s tiles_final map_final
    → take r.tile_bytes tiles_after ≡ take s.tile_bytes tiles_final → take r.map_bytes map_after ≡ take s.map_bytes map_final
    → cut_to z.depth pixels ≡ cut_to z.depth others
alike-written z pixels tiles map r tiles_after map_after done others tiles_other map_other s tiles_final map_final also t m =
    alike-pictures z pixels others (length tiles) (length map) (length tiles_other) (length map_other)
    (says-0 z pixels tiles map r tiles_after map_after done) (says-0 z others tiles_other map_other s tiles_final map_final also)
    (sym (written-tiles z pixels tiles map r tiles_after map_after done) ∙ t ∙ written-tiles z others tiles_other map_other s tiles_final map_final also)
    (sym (written-map z pixels tiles map r tiles_after map_after done) ∙ m ∙ written-map z others tiles_other map_other s tiles_final map_final also)

-- ---- "as by adding to an empty set": adding tiles that are the picture's once they are cut, one after the other, to a new set with room for the
-- need, of any limit and any store

module _ (z : Settings) (pixels : List ℕ) (limit : ℕ) (store : List ℕ) (ps : List (List ℕ)) where
  abbrev empty_set : Set
  empty_set = new_set z.mode z.depth 8 8 z.flip z.discard limit

  module _ (size : size_says z.mode z.depth z.columns z.rows ≡ 0) (cut : map (cut_to z.depth) ps ≡ picture_tiles 8 8 z pixels)
      (room : need_of 8 8 z pixels ≤ room_in empty_set (length store)) where
    -- every add is answered 0
    pub adds-accepted : adds empty_set store ps ≡ places z
    adds-accepted = tiles-accepted z pixels size limit store ps cut room

    -- and the set is left with the tiles that the picture stores, and the number that it discards
    pub adds-store : set_tiles (set_at_end empty_set store ps) (store_at_end empty_set store ps) ≡ stored_of 8 8 z pixels
    adds-store = tiles-stored z pixels size limit store ps cut room

    pub adds-discard : (set_at_end empty_set store ps).discarded ≡ discarded_of 8 8 z pixels
    adds-discard = omega (arith, tiles-sum z pixels size limit store ps cut room, tiles-count z pixels size limit store ps cut room, all-counted 8 8 some-8 z pixels)

    -- and writing the set gives the picture's tile bytes
    pub adds-write : tile_bytes_of z pixels ≡ set_bytes (set_at_end empty_set store ps) (store_at_end empty_set store ps)
    adds-write = tiles-bytes z pixels size limit store ps cut room

-- the picture's tiles are such tiles
pub tiles-cut-again : (z : Settings) (pixels : List ℕ) → map (cut_to z.depth) (picture_tiles 8 8 z pixels) ≡ picture_tiles 8 8 z pixels
unfolding picture_tiles
tiles-cut-again z pixels = tiles-cut z.depth 8 8 z.columns pixels (places z)

-- ---- over the answer of a call, refused or not

module _ (z : Settings) (pixels tiles map : List ℕ) (r : Picture) (tiles_after map_after : List ℕ)
    (p : Converts (convert_says z pixels (length tiles) (length map)) z pixels tiles map r tiles_after map_after) where
  abbrev due : ℕ
  due = convert_says z pixels (length tiles) (length map)

  abbrev before : ℕ
  before = earlier z pixels (length tiles) (length map)

  answered : r.refusal ≡ due
  answered = ap (λ (x : Picture). x.refusal) p.answer

  -- 12 is answered exactly when no check before the last refuses and the need is above the room
  pub answers-12 : (r.refusal ≡ 12 → (before ≡ 0) × (picture_room z (length tiles) < need_of 8 8 z pixels))
      × (before ≡ 0 → picture_room z (length tiles) < need_of 8 8 z pixels → r.refusal ≡ 12)
  answers-12 =
      let room = refused-for-room z pixels (length tiles) (length map) in
      (λ e. room.0 (sym answered ∙ e), λ passed above. answered ∙ room.1 passed above)

  -- a refused call leaves both buffers as they were
  pub refused-kept : (r.refusal ≡ 0 → ⊥) → (tiles_after ≡ tiles) × (map_after ≡ map)
  refused-kept refused =
      let no : due ≡ 0 → ⊥ = λ e. refused (answered ∙ e) in
      (p.lent ∙ when-refused due (overwrite tiles (tile_bytes_of z pixels)) tiles no, p.also_lent ∙ when-refused due (overwrite map (map_bytes_of z pixels)) map no)

-- a refused redrawing leaves the pixels as they were
pub redraw-refused-kept : (m d columns rows : ℕ) (tiles map out : List ℕ) (w : Written) (after : List ℕ)
    → Wrote (redraw_says m d columns rows tiles map (length out)) (drawn m d columns rows tiles map) out w after → (w.refusal ≡ 0 → ⊥) → after ≡ out
redraw-refused-kept m d columns rows tiles map out w after q refused =
    let due = redraw_says m d columns rows tiles map (length out) in
    q.lent ∙ when-refused due (overwrite out (drawn m d columns rows tiles map)) out (λ e. refused (ap (λ (x : Written). x.refusal) q.answer ∙ e))

-- a call of redraw on what a conversion wrote, with space for the pixels: it is done, and gives the picture, cut to the depth
module _ (z : Settings) (pixels tiles map : List ℕ) (r : Picture) (tiles_after map_after : List ℕ) (done : Done z pixels tiles map r tiles_after map_after)
    (out : List ℕ) (w : Written) (after : List ℕ) (space : 64 * places z ≤ length out) where
  abbrev tiles_written : List ℕ
  tiles_written = take r.tile_bytes tiles_after

  abbrev map_written : List ℕ
  map_written = take r.map_bytes map_after

  abbrev redraw_due : ℕ
  redraw_due = redraw_says z.mode z.depth z.columns z.rows tiles_written map_written (length out)

  abbrev redrawn : List ℕ
  redrawn = drawn z.mode z.depth z.columns z.rows tiles_written map_written

  pub redraw-gives : Wrote redraw_due redrawn out w after → (w.refusal ≡ 0) × (take w.written after ≡ cut_to z.depth pixels)
  redraw-gives q =
      let back = redrawn-written z pixels tiles map r tiles_after map_after done (length out) space in (
        ap (λ (x : Written). x.refusal) q.answer ∙ back.0,
        front redraw_due redrawn out after w.written back.0 (ap (λ (x : Written). x.written) q.answer) q.lent ∙ back.1,
      )
