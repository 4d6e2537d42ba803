-- Rows of a picture, and rows after them: their tiles, and what is stored, found and written of them, are those of all the rows.
-- Assumes nothing.
use mathlib.Core.Path.{◌≡◌, refl, sym, ap, ◌∙◌}
use mathlib.Core.Bool.{Bool, ◌&&◌}
use mathlib.Core.List.{List, [], ◌∷◌, ◌++◌, append_assoc, append-nil}
use Prim.Native.Nat.{ℕ, zero, suc, ◌+◌, ◌-◌, ◌*◌, ◌/◌, ◌%◌, ◌<◌, ◌≤◌}
use native.Mathlib.Nat.{add-zero, add-suc, mul-add, add-mul, mul_comm, mul-mul-mul_comm, mul-add-div, mul-add-mod_self_left}
use native.Mathlib.Omega.{arith}
use lib.ListN.{length, get_or, get_or-append}
use lib.Seq.{get_or-append-add}
use Rattle.words.specs.Loops.{each}
use Rattle.words.proofs.Items.{each-eq, each-add}
use Rattle.words.proofs.Loops.{either}
use Rattle.mapentry.specs.Entry.{entry_bytes}
use Rattle.tile.specs.Tile.{packed}
use Rattle.tileset.specs.Finding.{look_up, is_found, cut_to}
use Rattle.tileset.specs.Keeping.{keep, keep_all, kept}
use Rattle.tileset.specs.declared.Found.{Found}
use Rattle.tileset.proofs.Keeping.{keep_append, keep-grows, all-grow}
use Rattle.picture.specs.Cells.{pixel_at, cut_tile, cut_tiles}
use Rattle.picture.specs.Entries.{entry_for}
use Rattle.picture.specs.Converting.{places, picture_tiles, stored_of, discarded_of, found_at, tile_bytes_of, map_bytes_of}
use Rattle.picture.specs.Continuing.{stored_after, discarded_after, found_after, tile_bytes_after, map_bytes_after}
use Rattle.picture.specs.declared.Settings.{Settings}
use Rattle.picture.proofs.Cells.{some-8, pixel_at-lt}
use Rattle.picture.proofs.Converted.{tile-is, found-taken, stored-discarded}
use Rattle.picture.proofs.Promised.{counted-after}
use Rattle.strip.specs.Strips.{rows_of}

-- ---- what is kept stands where it stood

module _ (discard on : Bool) (w h : ℕ) where
  one-front : (st : List (List ℕ)) (t : List ℕ) (k : ℕ) → k < length st → get_or (keep discard on w h st t) k [] ≡ get_or st k []
  unfolding keep
  one-front st t k lt =
      either (λ (x : List (List ℕ)). get_or x k [] ≡ get_or st k []) (discard && is_found (look_up on w h st t)) st (st ++ t ∷ []) refl (get_or-append st (t ∷ []) [] k lt)

  pub kept-front : (st ts : List (List ℕ)) (k : ℕ) → k < length st → get_or (keep_all discard on w h st ts) k [] ≡ get_or st k []
  kept-front st [] k lt = refl
  kept-front st (t ∷ ts) k lt = kept-front (keep discard on w h st t) ts k (omega (arith, keep-grows discard on w h st t)) ∙ one-front st t k lt

-- ---- tiles of rows

module _ (d columns n : ℕ) (xs ys : List ℕ) (wide : 0 < columns) (whole : length xs ≡ 64 * (columns * n)) where
  abbrev first : ℕ
  first = columns * n

  -- a pixel of a later row
  pub pixel-later : (j p : ℕ) → pixel_at 8 8 columns (first + j) p ≡ length xs + pixel_at 8 8 columns j p
  unfolding pixel_at
  pixel-later j p =
      let down : (first + j) / columns ≡ n + j / columns = mul-add-div wide n j in
      let along : (first + j) % columns ≡ j % columns = mul-add-mod_self_left columns n j in
      let a = j / columns * 8 + p / 8 in
      let b = j % columns * 8 + p % 8 in
      rw (down, along)
      (omega (arith, add-mul (n * 8) a (columns * 8), ap (λ (k : ℕ). k * (columns * 8)) (let e : (n + j / columns) * 8 + p / 8 ≡ n * 8 + a = omega arith in e), whole, eight))
    where
      eight : n * 8 * (columns * 8) ≡ 64 * (columns * n)
      eight = mul-mul-mul_comm n 8 columns 8 ∙ omega (arith, mul_comm n columns)

  pub tile-later : (j : ℕ) → cut_tile d 8 8 columns (xs ++ ys) (first + j) ≡ cut_tile d 8 8 columns ys j
  unfolding cut_tile
  tile-later j =
      ap (cut_to d)
      (each-eq 64 (λ p. get_or (xs ++ ys) (pixel_at 8 8 columns (first + j) p) 0 ∷ []) (λ p. get_or ys (pixel_at 8 8 columns j p) 0 ∷ [])
      (λ p lt. ap (λ (v : ℕ). v ∷ []) (ap (λ (k : ℕ). get_or (xs ++ ys) k 0) (pixel-later j p) ∙ get_or-append-add xs ys (pixel_at 8 8 columns j p) 0)))

  pub tile-first : (i : ℕ) → i < first → cut_tile d 8 8 columns (xs ++ ys) i ≡ cut_tile d 8 8 columns xs i
  unfolding cut_tile
  tile-first i lt =
      ap (cut_to d)
      (each-eq 64 (λ p. get_or (xs ++ ys) (pixel_at 8 8 columns i p) 0 ∷ []) (λ p. get_or xs (pixel_at 8 8 columns i p) 0 ∷ [])
      (λ p inside. ap (λ (v : ℕ). v ∷ []) (get_or-append xs ys 0 (pixel_at 8 8 columns i p) (omega (arith, pixel_at-lt 8 8 columns n i p some-8 wide lt inside)))))

  pub tiles-first : (k : ℕ) → k ≤ first → cut_tiles d 8 8 columns (xs ++ ys) k ≡ cut_tiles d 8 8 columns xs k
  unfolding cut_tiles
  tiles-first zero le = refl
  tiles-first (suc k) le = rw (tiles-first k (omega arith), tile-first k le)

  pub tiles-both : (k : ℕ) → cut_tiles d 8 8 columns (xs ++ ys) (first + k) ≡ cut_tiles d 8 8 columns xs first ++ cut_tiles d 8 8 columns ys k
  unfolding cut_tiles
  tiles-both zero = ap (cut_tiles d 8 8 columns (xs ++ ys)) (add-zero first) ∙ tiles-first first (omega arith) ∙ sym (append-nil (cut_tiles d 8 8 columns xs first))
  tiles-both (suc k) =
      ap (cut_tiles d 8 8 columns (xs ++ ys)) (add-suc first k)
      ∙ ap (λ (l : List (List ℕ)). l ++ cut_tile d 8 8 columns (xs ++ ys) (first + k) ∷ []) (tiles-both k)
      ∙ ap (λ (t : List ℕ). (cut_tiles d 8 8 columns xs first ++ cut_tiles d 8 8 columns ys k) ++ t ∷ []) (tile-later k)
      ∙ append_assoc (cut_tiles d 8 8 columns xs first) (cut_tiles d 8 8 columns ys k) (cut_tile d 8 8 columns ys k ∷ [])

-- ---- a picture of n rows, and m rows after it

module _ (z : Settings) (n m : ℕ) (xs ys : List ℕ) (wide : 0 < z.columns) (whole : length xs ≡ 64 * (z.columns * n)) where
  abbrev above : Settings
  above = rows_of z n

  abbrev below : Settings
  below = rows_of z m

  abbrev all : Settings
  all = rows_of z (n + m)

  abbrev had : List (List ℕ)
  had = stored_of 8 8 above xs

  places-both : places all ≡ z.columns * n + z.columns * m
  places-both = mul-add z.columns n m

  picture-both : picture_tiles 8 8 all (xs ++ ys) ≡ picture_tiles 8 8 above xs ++ picture_tiles 8 8 below ys
  unfolding picture_tiles
  picture-both =
      ap (cut_tiles z.depth 8 8 z.columns (xs ++ ys)) places-both ∙ tiles-both z.depth z.columns n xs ys wide whole (z.columns * m)

  -- the same fold, continued
  pub stored-both : stored_after below ys had ≡ stored_of 8 8 all (xs ++ ys)
  unfolding stored_after stored_of kept
  stored-both =
      sym (ap (keep_all z.discard z.flip 8 8 []) picture-both
      ∙ keep_append z.discard z.flip 8 8 [] (picture_tiles 8 8 above xs) (picture_tiles 8 8 below ys))

  pub discarded-both : discarded_of 8 8 above xs + discarded_after below ys had ≡ discarded_of 8 8 all (xs ++ ys)
  discarded-both =
      omega (
        arith,
        counted-after below ys had,
        ap (λ (l : List (List ℕ)). length l) stored-both,
        stored-discarded 8 8 some-8 above xs,
        stored-discarded 8 8 some-8 all (xs ++ ys),
        places-both,
      )

  pub grows : length had ≤ length (stored_after below ys had)
  unfolding stored_after
  grows = all-grow z.discard z.flip 8 8 had (picture_tiles 8 8 below ys)

  stored-front : (k : ℕ) → k < length had → get_or (stored_after below ys had) k [] ≡ get_or had k []
  unfolding stored_after
  stored-front k lt = kept-front z.discard z.flip 8 8 had (picture_tiles 8 8 below ys) k lt

  abbrev packed_of : List (List ℕ) → ℕ → List ℕ
  packed_of ts k = packed z.mode z.depth 8 8 (get_or ts k [])

  -- the tiles' bytes
  pub tiles-joined : tile_bytes_of all (xs ++ ys) ≡ tile_bytes_of above xs ++ tile_bytes_after below ys had
  unfolding tile_bytes_of tile_bytes_after
  tiles-joined =
      let more = length (stored_after below ys had) - length had in
      let sum : length (stored_after below ys had) ≡ length had + more = omega (arith, grows) in
      ap (λ (ts : List (List ℕ)). each (length ts) (packed_of ts)) (sym stored-both)
      ∙ ap (λ (k : ℕ). each k (packed_of (stored_after below ys had))) sum
      ∙ each-add (length had) more (packed_of (stored_after below ys had))
      ∙ ap (λ (l : List ℕ). l ++ each more (λ k. packed_of (stored_after below ys had) (length had + k)))
      (each-eq (length had) (packed_of (stored_after below ys had)) (packed_of had) (λ k lt. ap (packed z.mode z.depth 8 8) (stored-front k lt)))

  -- where tiles are found
  found_first : (i : ℕ) → i < places above → found_at 8 8 all (xs ++ ys) i ≡ found_at 8 8 above xs i
  found_first i lt =
      let cut = tiles-first z.depth z.columns n xs ys wide whole (suc i) lt in
      let here = tile-first z.depth z.columns n xs ys wide whole i lt in
      found-taken 8 8 some-8 all (xs ++ ys) i (omega (arith, places-both))
      ∙ ap (λ (ts : List (List ℕ)). look_up z.flip 8 8 (kept z.discard z.flip 8 8 ts) (cut_tile z.depth 8 8 z.columns (xs ++ ys) i)) cut
      ∙ ap (look_up z.flip 8 8 (kept z.discard z.flip 8 8 (cut_tiles z.depth 8 8 z.columns xs (suc i)))) here
      ∙ sym (found-taken 8 8 some-8 above xs i lt)

  found-later : (j : ℕ) → j < places below → found_at 8 8 all (xs ++ ys) (places above + j) ≡ found_after below ys had j
  unfolding found_at found_after
  found-later j lt =
      ap (look_up z.flip 8 8 (stored_of 8 8 all (xs ++ ys)))
      (tile-is 8 8 some-8 all (xs ++ ys) (places above + j) (omega (arith, places-both))
      ∙ tile-later z.depth z.columns n xs ys wide whole j
      ∙ sym (tile-is 8 8 some-8 below ys j lt))
      ∙ ap (λ (ts : List (List ℕ)). look_up z.flip 8 8 ts (get_or (picture_tiles 8 8 below ys) j [])) (sym stored-both)

  abbrev entry_of : Found → List ℕ
  entry_of found = entry_bytes z.mode (entry_for z.mode 8 8 z.palette found)

  -- the entries' bytes
  pub map-joined : map_bytes_of all (xs ++ ys) ≡ map_bytes_of above xs ++ map_bytes_after below ys had
  unfolding map_bytes_of map_bytes_after
  map-joined =
      ap (λ (k : ℕ). each k (λ i. entry_of (found_at 8 8 all (xs ++ ys) i))) places-both
      ∙ each-add (places above) (places below) (λ i. entry_of (found_at 8 8 all (xs ++ ys) i))
      ∙ ap (λ (l : List ℕ). l ++ each (places below) (λ j. entry_of (found_at 8 8 all (xs ++ ys) (places above + j))))
      (each-eq (places above) (λ i. entry_of (found_at 8 8 all (xs ++ ys) i)) (λ i. entry_of (found_at 8 8 above xs i)) (λ i lt. ap entry_of (found_first i lt)))
      ∙ ap (λ (l : List ℕ). map_bytes_of above xs ++ l)
      (each-eq (places below) (λ j. entry_of (found_at 8 8 all (xs ++ ys) (places above + j))) (λ j. entry_of (found_after below ys had j)) (λ j lt. ap entry_of (found-later j lt)))
