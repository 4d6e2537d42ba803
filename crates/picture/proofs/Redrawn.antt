-- What a conversion writes is drawn again: each entry names its tile, and the tile's bytes give the tile back.
-- Assumes nothing.
use mathlib.Core.Path.{◌≡◌, refl, sym, ap, ◌∙◌}
use mathlib.Core.Bool.{Bool, true, false}
use mathlib.Core.List.{List, [], ◌∷◌, map}
use Prim.Native.Nat.{ℕ, zero, suc, ◌*◌, ◌/◌, ◌%◌, ◌^◌, ◌<◌, ◌≤◌}
use native.Mathlib.Nat.{le_trans, mul-mod_left, mul-div_cancel, suc-ne-zero, suc_inj}
use native.Mathlib.Omega.{arith}
use lib.ListN.{length, get_or, take, drop, length-map}
use lib.Seq.{ext_get_or}
use borrow.Author.Tests.{lt-leb}
use Rattle.words.specs.Loops.{some}
use Rattle.words.proofs.Items.{item-at, number_at}
use Rattle.mode.specs.Table.{row}
use Rattle.mapentry.specs.Entry.{entry_bytes, entry_of}
use Rattle.mapentry.specs.declared.Mapentry.{Mapentry}
use Rattle.mapentry.proofs.Trips.{entry-back}
use Rattle.tile.specs.Tile.{packed, unpacked}
use Rattle.tile.proofs.Laws.{pixels-back}
use Rattle.flip.specs.Flips.{flipped}
use Rattle.flip.specs.declared.Flip.{Flip}
use Rattle.flip.proofs.Equivalence.{not-both}
use Rattle.tileset.specs.Finding.{look_up, is_found, cut_to, tiles_in}
use Rattle.tileset.specs.Numbers.{first_cell}
use Rattle.tileset.specs.declared.Logical.{Logical}
use Rattle.tileset.specs.declared.Found.{Found}
use Rattle.tileset.specs.declared.Found.TheVariants.{At, Nothing}
use Rattle.tileset.proofs.Stores.{length_cut, cut_at}
use Rattle.tileset.proofs.Stores.{tiles-at, tiles-long}
use Rattle.picture.specs.Cells.{tile_over, place_over, cut_tile}
use Rattle.picture.specs.Entries.{entry_as, entry_for, tile_named}
use Rattle.picture.specs.Converting.{places, picture_tiles, stored_of, tile_bytes_of, found_at, map_bytes_of, picture_room, convert_says}
use Rattle.picture.specs.Redrawing.{entry_at, drawn_tile, drawn, names_more, redraw_says}
use Rattle.picture.specs.Inner.{asked_says, IsPicture}
use Rattle.picture.specs.declared.Settings.{Settings}
use Rattle.picture.proofs.Checks.{IsSize, tile-8, native-tile, size-passed, asked-sized, asked-picture, asked-map, room-named, room-bytes, convert-passed}
use Rattle.picture.proofs.Cells.{named_back, some-8, cut_tile-at, pixel_at-back, place_over-lt, tile_over-lt}
use Rattle.tileset.proofs.Search.{look-told}
use Rattle.picture.proofs.Kept.{kept-sizes, kept_small}
use Rattle.picture.proofs.Converted.{packed-size, entry-size, tile-is, is_found_lem, stored-need, found-fits, tile-bytes-length, map-bytes-length}
use Rattle.picture.proofs.RedrawChecks.{redraw-0}
use Rattle.picture.proofs.Drawing.{picture-length}

-- a test that holds of no number below n
none_of : (n : ℕ) (f : ℕ → Bool) → ((i : ℕ) → i < n → f i ≡ false) → some n f ≡ false
none_of zero f h = refl
none_of (suc n) f h = rw (none_of n f (λ i lt. h i (omega arith)), h n (omega arith))

-- a list is another one's items, each taken by f
pub ext-in : (f : List ℕ → List ℕ) (xs ys : List (List ℕ)) → length (map f xs) ≡ length ys → ((k : ℕ) → k < length ys → f (get_or xs k []) ≡ get_or ys k []) → map f xs ≡ ys
ext-in f [] [] e h = refl
ext-in f [] (y ∷ ys) e h = absurd (suc-ne-zero (length ys) (sym e))
ext-in f (x ∷ xs) [] e h = absurd (suc-ne-zero (length (map f xs)) e)
ext-in f (x ∷ xs) (y ∷ ys) e h = rw (h 0 (omega arith), ext-in f xs ys (suc_inj e) (λ k lt. h (suc k) (omega arith)))

module _ (z : Settings) (pixels : List ℕ) where
  abbrev stored : List (List ℕ)
  stored = stored_of 8 8 z pixels

  -- a stored tile's bytes, a tile from bytes, and an entry of what was written
  abbrev packed_at : ℕ → List ℕ
  packed_at k = packed z.mode z.depth 8 8 (get_or stored k [])

  abbrev from_bytes : List ℕ → List ℕ
  from_bytes bytes = unpacked z.mode z.depth 8 8 bytes

  abbrev bytes_at : ℕ → List ℕ
  bytes_at k = take (z.depth * 8) (drop (k * (z.depth * 8)) (tile_bytes_of z pixels))

  abbrev entry : ℕ → Mapentry
  entry i = entry_for z.mode 8 8 z.palette (found_at 8 8 z pixels i)

  abbrev written : ℕ → Mapentry
  written i = entry_at z.mode (map_bytes_of z pixels) i

  abbrev redrawn : ℕ → List ℕ
  redrawn i = drawn_tile z.mode z.depth (tile_bytes_of z pixels) (written i)

  abbrev tile : ℕ → List ℕ
  tile i = cut_tile z.depth 8 8 z.columns pixels i

  stored-size : (k : ℕ) → k < length stored → length (get_or stored k []) ≡ 64
  unfolding stored_of picture_tiles
  stored-size k lt = kept-sizes z.discard z.flip z.depth 8 8 z.columns pixels (places z) k lt

  stored-small : (k : ℕ) → k < length stored → (p : ℕ) → get_or (get_or stored k []) p 0 < 2 ^ z.depth
  unfolding stored_of picture_tiles
  stored-small k lt = kept_small z.discard z.flip z.depth 8 8 z.columns pixels (places z) k lt

  -- each tile has a stored tile that an allowed flip takes to it
  record Named (i : ℕ) : Type 0 where
    place : Logical
    under : Flip
    found : found_at 8 8 z pixels i ≡ At place under
    inside : place.0 < length stored
    takes : flipped under 8 8 (get_or stored place.0 []) ≡ tile i

  named-case : (i : ℕ) → i < places z → (r : Found) → found_at 8 8 z pixels i ≡ r → is_found r ≡ true → Named i
  unfolding found_at
  named-case i lt (At k f) e p =
      let told = look-told z.flip 8 8 (tile i) stored (ap (look_up z.flip 8 8 stored) (sym (tile-is 8 8 some-8 z pixels i lt)) ∙ e) in
      record { place = k; under = f; found = e; inside = told.0; takes = told.1.1 }
  named-case i lt Nothing e p = not-both p

  named : (i : ℕ) → i < places z → Named i
  named i lt = named-case i lt (found_at 8 8 z pixels i) refl (is_found_lem 8 8 some-8 z pixels i lt)

  -- ---- a picture that is not refused

  module _ (tile_space map_space : ℕ) (done : convert_says z pixels tile_space map_space ≡ 0) where
    asked : asked_says z (length pixels) map_space ≡ 0
    asked = (convert-passed z pixels tile_space map_space done).0

    size : IsSize z.mode z.depth z.columns z.rows
    size = asked-sized z (length pixels) map_space asked

    picture : IsPicture z (length pixels)
    picture = asked-picture z (length pixels) map_space asked

    room_for : length stored ≤ picture_room z tile_space
    room_for = omega (arith, stored-need 8 8 some-8 z pixels, (convert-passed z pixels tile_space map_space done).1)

    -- both buffers hold the bytes
    pub tiles-fit : length (tile_bytes_of z pixels) ≤ tile_space
    tiles-fit = omega (arith, tile-bytes-length z pixels picture, room-bytes z tile_space size.shallow room_for)

    pub map-fits : length (map_bytes_of z pixels) ≤ map_space
    map-fits = omega (arith, map-bytes-length z pixels, asked-map z (length pixels) map_space asked)

    -- a stored tile's bytes, unpacked, are the tile
    tile-back : (k : ℕ) → k < length stored → from_bytes (bytes_at k) ≡ get_or stored k []
    unfolding tile_bytes_of
    tile-back k lt =
        ap from_bytes (item-at (z.depth * 8) packed_at (λ k. packed-size (native-tile size.mode size.map size.depth) (get_or stored k [])) (length stored) k lt)
        ∙ pixels-back z.mode z.depth 8 8 (tile-8 z.mode z.depth size.mode size.map size.depth) (get_or stored k []) (stored-size k lt)
        (λ i l. stored-small k lt i)

    -- so the tiles unpacked from all bytes are those stored
    pub tiles-back : map from_bytes (tiles_in (z.depth * 8) (tile_bytes_of z pixels) (length stored)) ≡ stored
    tiles-back =
        let parts = tiles_in (z.depth * 8) (tile_bytes_of z pixels) (length stored) in
        ext-in from_bytes parts stored (length-map parts from_bytes ∙ tiles-long (z.depth * 8) (tile_bytes_of z pixels) (length stored))
        (λ k lt. ap from_bytes (tiles-at (z.depth * 8) (tile_bytes_of z pixels) (length stored) k lt) ∙ tile-back k lt)

    -- the entry that is read back
    entry-is : (i : ℕ) → i < places z → (n : Named i) → written i ≡ entry_as (first_cell z.mode 8 8 n.place.0) z.palette n.under.h n.under.v
    unfolding entry_at map_bytes_of
    entry-is i lt n =
        ap (entry_of z.mode) (item-at (row z.mode).entry (λ i. entry_bytes z.mode (entry i)) (λ i. entry-size z.mode (entry i)) (places z) i lt)
        ∙ entry-back z.mode size.mode (entry i) (found-fits z pixels picture (le_trans room_for (room-named z tile_space)) i)
        ∙ ap (entry_for z.mode 8 8 z.palette) n.found

    -- the tile that it draws
    drawn-tile : (i : ℕ) → i < places z → redrawn i ≡ tile i
    unfolding drawn_tile
    drawn-tile i lt =
        let n = named i lt in
        ap (drawn_tile z.mode z.depth (tile_bytes_of z pixels)) (entry-is i lt n)
        ∙ ap (λ (k : ℕ). flipped n.under 8 8 (from_bytes (bytes_at k))) (named_back z.mode n.place.0)
        ∙ ap (flipped n.under 8 8) (tile-back n.place.0 n.inside)
        ∙ n.takes

    names-one : (i : ℕ) → i < places z → names_more z.mode z.depth (length (tile_bytes_of z pixels)) (map_bytes_of z pixels) i ≡ false
    names-one i lt =
        let n = named i lt in
        let count : length (tile_bytes_of z pixels) / (z.depth * 8) ≡ length stored =
        ap (λ (l : ℕ). l / (z.depth * 8)) (tile-bytes-length z pixels picture) ∙ mul-div_cancel (length stored) (omega (arith, size.shallow)) in
        let place : tile_named z.mode 8 8 (written i) ≡ n.place.0 = ap (tile_named z.mode 8 8) (entry-is i lt n) ∙ named_back z.mode n.place.0 in
        lt-leb (length (tile_bytes_of z pixels) / (z.depth * 8)) (tile_named z.mode 8 8 (written i)) (omega (arith, n.inside))

    pub redraw-accepted : (space : ℕ) → 64 * places z ≤ space → redraw_says z.mode z.depth z.columns z.rows (tile_bytes_of z pixels) (map_bytes_of z pixels) space ≡ 0
    redraw-accepted space enough =
        sym
        (redraw-0 z.mode z.depth z.columns z.rows (tile_bytes_of z pixels) (map_bytes_of z pixels) space
        (size-passed z (length pixels) map_space asked)
        (ap (λ (l : ℕ). l % (z.depth * 8)) (tile-bytes-length z pixels picture) ∙ mul-mod_left (length stored) (z.depth * 8))
        (map-bytes-length z pixels)
        (none_of (places z) (names_more z.mode z.depth (length (tile_bytes_of z pixels)) (map_bytes_of z pixels)) names-one)
        enough)

    -- a pixel that is drawn is the picture's, cut to the depth
    abbrev pixel : ℕ → ℕ
    pixel o = get_or (redrawn (tile_over 8 8 z.columns o)) (place_over 8 8 z.columns o) 0

    pixel-is : (o : ℕ) → o < 64 * places z → pixel o ≡ get_or (cut_to z.depth pixels) o 0
    pixel-is o lt =
        let wide = size.some in
        let i = tile_over 8 8 z.columns o in
        let p = place_over 8 8 z.columns o in
        ap (λ (t : List ℕ). get_or t p 0) (drawn-tile i (tile_over-lt 8 8 z.columns (omega arith) (omega arith) wide o z.rows lt))
        ∙ cut_tile-at z.depth 8 8 z.columns pixels i p (place_over-lt 8 8 z.columns (omega arith) (omega arith) wide o)
        ∙ ap (λ (k : ℕ). get_or pixels k 0 % 2 ^ z.depth) (pixel_at-back 8 8 z.columns (omega arith) (omega arith) wide o)
        ∙ sym (cut_at z.depth pixels o)

    pub drawn-back : drawn z.mode z.depth z.columns z.rows (tile_bytes_of z pixels) (map_bytes_of z pixels) ≡ cut_to z.depth pixels
    unfolding drawn
    drawn-back =
        let all = drawn z.mode z.depth z.columns z.rows (tile_bytes_of z pixels) (map_bytes_of z pixels) in
        let len : length all ≡ 64 * places z = picture-length z.mode z.depth z.columns (tile_bytes_of z pixels) (map_bytes_of z pixels) z.rows in
        ext_get_or 0 all (cut_to z.depth pixels) (len ∙ sym (length_cut z.depth pixels ∙ picture.whole))
        (λ o l. let lt : o < 64 * places z = omega arith in number_at (64 * places z) pixel o lt ∙ pixel-is o lt)
