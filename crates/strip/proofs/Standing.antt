-- A run in progress stands where the conversion of its rows so far stands.
-- Assumes nothing.
use mathlib.Core.Path.{◌≡◌, refl, sym, ap, ◌∙◌}
use mathlib.Core.Bool.{Bool, true, false}
use mathlib.Core.List.{List, [], ◌∷◌, ◌++◌}
use Prim.Native.Nat.{ℕ, ◌+◌, ◌-◌, ◌*◌, ◌/◌, ◌%◌, ◌^◌, ◌<◌, ◌≤◌}
use native.Mathlib.Nat.{mul-zero, mul-add, mul_comm, mul_left_comm, zero-add, mul-le-mul_left, mul-le-mul_right, div-add-mod'}
use native.Mathlib.Omega.{arith}
use lib.Dec.{ltb}
use lib.ListN.{length, get_or, take, drop, length-map, length-drop, length-append}
use lib.Seq.{sets, length-sets, take-append-le, drop-append-le}
use borrow.Author.Tests.{le-ltb, ltb-false}
use Rattle.words.specs.Answers.{◌when◌, first_applying}
use Rattle.words.specs.Loops.{each}
use Rattle.words.proofs.Answers.{all-passed, not-given, when-done}
use Rattle.words.proofs.Filling.{sets-append}
use Rattle.words.proofs.Items.{item-at, item-inside}
use Rattle.words.proofs.Loops.{sets-front}
use Rattle.mode.specs.Table.{row}
use Rattle.tile.specs.Tile.{packed, unpacked}
use Rattle.tile.proofs.Laws.{pixels-back}
use Rattle.tileset.specs.Finding.{tiles_in}
use Rattle.tileset.specs.Keeping.{kept}
use Rattle.tileset.proofs.Stores.{tiles-at, tiles-long}
use Rattle.mapentry.specs.Entry.{entry_bytes}
use Rattle.picture.specs.Cells.{cut_tiles}
use Rattle.picture.specs.Entries.{entry_for}
use Rattle.picture.specs.Converting.{places, picture_tiles, stored_of, discarded_of, found_at, tile_bytes_of, map_bytes_of, picture_room}
use Rattle.picture.specs.Continuing.{unpacked_tiles, stored_after, discarded_after, tile_bytes_after, map_bytes_after, goes_on_checks}
use Rattle.picture.specs.Inner.{IsPicture, goes_on_says}
use Rattle.picture.specs.declared.Settings.{Settings}
use Rattle.picture.proofs.Checks.{IsSize, tile-8, native-tile, few-tiles, room-bytes}
use Rattle.picture.proofs.Cells.{some-8}
use Rattle.picture.proofs.Kept.{kept-sizes, kept_small}
use Rattle.picture.proofs.Converted.{packed-size, tile-bytes-length, map-bytes-length, stored-discarded}
use Rattle.picture.proofs.Redrawn.{ext-in}
use Rattle.strip.specs.Strips.{rows_of, run_at, palette_check, written_by, take_says, run_after, Takes, stepped}
use Rattle.strip.specs.Inner.{settings_says, strip_says}
use Rattle.strip.specs.Calls.{Between, begun, Strip}
use Rattle.strip.specs.declared.Run.{Run}
use Rattle.strip.proofs.Joined.{stored-both, discarded-both, tiles-joined, map-joined}
use Rattle.strip.proofs.Says.{settings-sized, rows-picture, IsStrip, is-strip, counts-no, room-rows, rows-bytes, rows-low, length-0, strip-length, take-later, take-passed}

-- settings that a run starts with
pub record IsRun (z : Settings) : Type 0 where
  pub settings : settings_says z ≡ 0
  pub palette : palette_check z ≡ 0

module _ (z : Settings) (s : IsRun z) where
  abbrev sized : IsSize z.mode z.depth z.columns z.rows
  sized = settings-sized z s.settings

  abbrev size : ℕ
  size = z.depth * 8

  abbrev stored_in : ℕ → List ℕ → List (List ℕ)
  stored_in n xs = stored_of 8 8 (rows_of z n) xs

  abbrev bytes_in : ℕ → List ℕ → List ℕ
  bytes_in n xs = tile_bytes_of (rows_of z n) xs

  abbrev entries_in : ℕ → List ℕ → List ℕ
  entries_in n xs = map_bytes_of (rows_of z n) xs

  -- the bytes of rows
  module _ (n : ℕ) (xs : List ℕ) (low : n ≤ z.rows) (whole : length xs ≡ 64 * (z.columns * n)) where
    picture : IsPicture (rows_of z n) (length xs)
    picture = rows-picture z s.settings s.palette n low whole

    pub bytes-long : length (bytes_in n xs) ≡ length (stored_in n xs) * size
    bytes-long = tile-bytes-length (rows_of z n) xs picture

    pub entries-long : length (entries_in n xs) ≡ z.columns * n * (row z.mode).entry
    entries-long = map-bytes-length (rows_of z n) xs

    pub few-discarded : length (stored_in n xs) + discarded_of 8 8 (rows_of z n) xs ≤ 4096
    few-discarded = omega (arith, stored-discarded 8 8 some-8 (rows_of z n) xs, mul-le-mul_left z.columns low, few-tiles sized)

    -- the tiles that the bytes hold are those that were stored
    module _ (tiles : List ℕ) (room : length (stored_in n xs) ≤ picture_room z (length tiles)) where
      abbrev stored : List (List ℕ)
      stored = stored_in n xs

      abbrev written : List ℕ
      written = sets tiles 0 (bytes_in n xs)

      fits : length (bytes_in n xs) ≤ length tiles
      fits = omega (arith, bytes-long, room-bytes z (length tiles) sized.shallow room)

      part : (k : ℕ) → k < length stored → take size (drop (k * size) written) ≡ take size (drop (k * size) (bytes_in n xs))
      part k lt =
          let here = item-inside size (length stored) k lt in
          ap (λ (l : List ℕ). take size (drop (k * size) l)) (sets-front tiles (bytes_in n xs) fits)
          ∙ ap (λ (l : List ℕ). take size l) (drop-append-le (k * size) (bytes_in n xs) (drop (length (bytes_in n xs)) tiles) (omega (arith, bytes-long)))
          ∙ take-append-le size (drop (k * size) (bytes_in n xs)) (drop (length (bytes_in n xs)) tiles) (omega (arith, bytes-long, length-drop (k * size) (bytes_in n xs)))

      stored-size : (k : ℕ) → k < length stored → length (get_or stored k []) ≡ 64
      unfolding stored_of picture_tiles
      stored-size k lt = kept-sizes z.discard z.flip z.depth 8 8 z.columns xs (z.columns * n) k lt

      stored-small : (k : ℕ) → k < length stored → (p : ℕ) → get_or (get_or stored k []) p 0 < 2 ^ z.depth
      unfolding stored_of picture_tiles
      stored-small k lt = kept_small z.discard z.flip z.depth 8 8 z.columns xs (z.columns * n) k lt

      tile-back : (k : ℕ) → k < length stored → unpacked z.mode z.depth 8 8 (take size (drop (k * size) written)) ≡ get_or stored k []
      unfolding tile_bytes_of
      tile-back k lt =
          ap (unpacked z.mode z.depth 8 8)
          (part k lt
          ∙ item-at size (λ k. packed z.mode z.depth 8 8 (get_or stored k []))
          (λ k. packed-size (native-tile sized.mode sized.map sized.depth) (get_or stored k [])) (length stored) k lt)
          ∙ pixels-back z.mode z.depth 8 8 (tile-8 z.mode z.depth sized.mode sized.map sized.depth) (get_or stored k []) (stored-size k lt)
          (λ i l. stored-small k lt i)

      pub written_back : unpacked_tiles z written (length stored) ≡ stored
      written_back =
          let parts = tiles_in size written (length stored) in
          ext-in (unpacked z.mode z.depth 8 8) parts stored (length-map parts (unpacked z.mode z.depth 8 8) ∙ tiles-long size written (length stored))
          (λ k lt. ap (unpacked z.mode z.depth 8 8) (tiles-at size written (length stored) k lt) ∙ tile-back k lt)

  -- ---- a run after n rows, of these pixels

  module _ (tiles map : List ℕ) where
    abbrev pub standing : ℕ → List ℕ → Between
    standing n xs =
        record {
          run = run_at z n (length (stored_in n xs)) (discarded_of 8 8 (rows_of z n) xs);
          tiles = sets tiles 0 (bytes_in n xs);
          map = sets map 0 (entries_in n xs);
        }

    pub record Stands (n : ℕ) (xs : List ℕ) (b : Between) : Type 0 where
      pub whole : length xs ≡ 64 * (z.columns * n)
      pub low : n ≤ z.rows
      pub room : length (stored_in n xs) ≤ picture_room z (length tiles)
      pub space : 0 < n → places z * (row z.mode).entry ≤ length map
      pub is : b ≡ standing n xs

    -- it begins with no row
    none-stored : stored_in 0 [] ≡ []
    unfolding stored_of picture_tiles kept cut_tiles
    none-stored = ap (λ (k : ℕ). kept z.discard z.flip 8 8 (cut_tiles z.depth 8 8 z.columns [] k)) (mul-zero z.columns)

    none-bytes : bytes_in 0 [] ≡ []
    unfolding tile_bytes_of
    none-bytes = ap (λ (ts : List (List ℕ)). each (length ts) (λ k. packed z.mode z.depth 8 8 (get_or ts k []))) none-stored

    no-entries : entries_in 0 [] ≡ []
    unfolding map_bytes_of
    no-entries = ap (λ (k : ℕ). each k (λ i. entry_bytes z.mode (entry_for z.mode 8 8 z.palette (found_at 8 8 (rows_of z 0) [] i)))) (mul-zero z.columns)

    none-discarded : discarded_of 8 8 (rows_of z 0) [] ≡ 0
    none-discarded = omega (arith, stored-discarded 8 8 some-8 (rows_of z 0) [], mul-zero z.columns)

    pub stands-begun : Stands 0 [] (begun z tiles map)
    stands-begun =
        record {
          whole = omega (arith, mul-zero z.columns);
          low = omega arith;
          room = omega (arith, ap (λ (ts : List (List ℕ)). length ts) none-stored);
          space = λ lt. absurd (omega arith);
          is = begun-eq (sym (ap (λ (ts : List (List ℕ)). length ts) none-stored)) (sym none-discarded) (sym none-bytes) (sym no-entries);
        }
      where
        begun-eq : {a b : ℕ} {x y : List ℕ} → 0 ≡ a → 0 ≡ b → [] ≡ x → [] ≡ y
            → begun z tiles map ≡ record { run = run_at z 0 a b; tiles = sets tiles 0 x; map = sets map 0 y }
        begun-eq p q r s = rw (← p, ← q, ← r, ← s)

    -- ---- one strip more

    abbrev between : Run → List ℕ → List ℕ → Between
    between r x u = record { run = r; tiles = x; map = u }

    between-eq : {r t : Run} {x y u v : List ℕ} → r ≡ t → x ≡ y → u ≡ v → between r x u ≡ between t y v
    between-eq p q s = rw (p, q, s)

    module _ (n : ℕ) (xs ys : List ℕ) (low : n ≤ z.rows) (whole : length xs ≡ 64 * (z.columns * n)) (room : length (stored_in n xs) ≤ picture_room z (length tiles)) where
      abbrev here : Between
      here = standing n xs

      abbrev r : Run
      r = here.run

      abbrev m : ℕ
      m = length ys / (64 * z.columns)

      abbrev says : ℕ
      says = take_says r ys here.tiles (length here.map)

      abbrev below : Settings
      below = rows_of z m

      abbrev had : List (List ℕ)
      had = stored_in n xs

      held : written_by r here.tiles ≡ had
      held = written_back n xs low whole tiles room

      long : length here.tiles ≡ length tiles
      long = length-sets tiles 0 (bytes_in n xs)

      wide : length here.map ≡ length map
      wide = length-sets map 0 (entries_in n xs)

      same-room : picture_room below (length here.tiles) ≡ picture_room z (length tiles)
      same-room = room-rows z m (length here.tiles) ∙ ap (picture_room z) long

      joined-stored : stored_after below ys had ≡ stored_in (n + m) (xs ++ ys)
      joined-stored = stored-both z n m xs ys sized.some whole

      -- where it is accepted
      module _ (zero' : says ≡ 0) where
        strip : IsStrip r (length ys) (length here.tiles) (length here.map)
        strip = is-strip r (length ys) (length here.tiles) (length here.map) (take-passed r ys here.tiles (length here.map) zero').0

        later : goes_on_says below ys (written_by r here.tiles) r.discarded (length here.tiles) ≡ 0
        later = (take-passed r ys here.tiles (length here.map) zero').1

        room-then : length (stored_in (n + m) (xs ++ ys)) ≤ picture_room z (length tiles)
        unfolding goes_on_says
        room-then =
            let passed = all-passed (goes_on_checks below ys (written_by r here.tiles) r.discarded (length here.tiles)) later 0 in
            let le = ltb-false (picture_room below (length here.tiles)) (length (stored_after below ys (written_by r here.tiles))) (not-given 11 _ passed) in
            omega (arith, le, same-room, ap (λ (ts : List (List ℕ)). length (stored_after below ys ts)) held, ap (λ (ts : List (List ℕ)). length ts) joined-stored)

        tiles-then : sets here.tiles (length (written_by r here.tiles) * size) (tile_bytes_after below ys (written_by r here.tiles)) ≡ sets tiles 0 (bytes_in (n + m) (xs ++ ys))
        tiles-then =
            ap (λ (ts : List (List ℕ)). sets here.tiles (length ts * size) (tile_bytes_after below ys ts)) held
            ∙ ap (λ (k : ℕ). sets here.tiles k (tile_bytes_after below ys had)) (sym (bytes-long n xs low whole) ∙ sym (zero-add (length (bytes_in n xs))))
            ∙ sym (sets-append (bytes_in n xs) (tile_bytes_after below ys had) tiles 0)
            ∙ ap (sets tiles 0) (sym (tiles-joined z n m xs ys sized.some whole))

        map-then : sets here.map (n * z.columns * (row z.mode).entry) (map_bytes_after below ys (written_by r here.tiles)) ≡ sets map 0 (entries_in (n + m) (xs ++ ys))
        map-then =
            ap (λ (ts : List (List ℕ)). sets here.map (n * z.columns * (row z.mode).entry) (map_bytes_after below ys ts)) held
            ∙ ap (λ (k : ℕ). sets here.map k (map_bytes_after below ys had))
            (ap (λ (k : ℕ). k * (row z.mode).entry) (mul_comm n z.columns) ∙ sym (entries-long n xs low whole) ∙ sym (zero-add (length (entries_in n xs))))
            ∙ sym (sets-append (entries_in n xs) (map_bytes_after below ys had) map 0)
            ∙ ap (sets map 0) (sym (map-joined z n m xs ys sized.some whole))

        run-then : run_after r ys here.tiles ≡ (standing (n + m) (xs ++ ys)).run
        run-then =
            ap (λ (ts : List (List ℕ)). run_at z (n + m) (length (stored_after below ys ts)) (discarded_of 8 8 (rows_of z n) xs + discarded_after below ys ts)) held
            ∙ ap (λ (ts : List (List ℕ)). run_at z (n + m) (length ts) (discarded_of 8 8 (rows_of z n) xs + discarded_after below ys had)) joined-stored
            ∙ ap (run_at z (n + m) (length (stored_in (n + m) (xs ++ ys)))) (discarded-both z n m xs ys sized.some whole)

        pub stands-next : (c : Strip) → c.pixels ≡ ys → Takes says r ys here.tiles here.map (stepped c.answer c.left.run) c.left.tiles c.left.map
            → Stands (n + m) (xs ++ ys) c.left
        stands-next c e took =
            record {
              whole = omega (arith, length-append xs ys, whole, rows-bytes strip, mul-add z.columns n m);
              low = rows-low strip;
              room = room-then;
              space = λ lt. omega (arith, strip.space, wide);
              is =
                  between-eq
                  (took.run ∙ when-done says (run_after r ys here.tiles) r zero' ∙ run-then)
                  (took.converts.lent
                  ∙ when-done says (sets here.tiles (length (written_by r here.tiles) * size) (tile_bytes_after below ys (written_by r here.tiles))) here.tiles zero'
                  ∙ tiles-then)
                  (took.converts.also_lent
                  ∙ when-done says (sets here.map (n * z.columns * (row z.mode).entry) (map_bytes_after below ys (written_by r here.tiles))) here.map zero'
                  ∙ map-then);
            }

      -- what a strip of whole rows is answered, where they are rows of the picture and the map has room
      module _ (some : 0 < length ys) (rows : length ys % (64 * z.columns) ≡ 0) (inside : n + m ≤ z.rows) (space : places z * (row z.mode).entry ≤ length map) where
        ys-long : length ys ≡ m * (64 * z.columns)
        ys-long = omega (arith, div-add-mod' (length ys) (64 * z.columns), rows)

        counted : strip_says r (length ys) (length here.tiles) (length here.map) ≡ 0
        counted =
            sym (strip-length r (length ys) (length here.tiles) (length here.map) s.settings
            (counts-no r (picture_room z (length here.tiles)) (omega (arith, room, ap (picture_room z) long)) low))
            ∙ sym (length-0 r (length ys) (length here.map)
            (omega (arith, ys-long, mul-le-mul_right (64 * z.columns) (let le : m ≤ z.rows - n = omega arith in le)))
            some rows s.palette (omega (arith, wide)))

        few : discarded_of 8 8 (rows_of z n) xs + discarded_after below ys had ≤ 4096
        few =
            omega (
              arith,
              discarded-both z n m xs ys sized.some whole,
              few-discarded (n + m) (xs ++ ys) inside (omega (arith, length-append xs ys, whole, ys-long, mul-add z.columns n m, mul_left_comm m 64 z.columns, mul_comm m z.columns)),
            )

        pub strip-says : says ≡ 12 when ltb (picture_room z (length tiles)) (length (stored_in (n + m) (xs ++ ys)))
        unfolding goes_on_says
        strip-says =
            take-later r ys here.tiles (length here.map) counted
            ∙ ap (λ (ts : List (List ℕ)). first_applying (goes_on_checks below ys ts (discarded_of 8 8 (rows_of z n) xs) (length here.tiles))) held
            ∙ no-13 (ltb (picture_room below (length here.tiles)) (length (stored_after below ys had))) (ltb 4294967295 (discarded_of 8 8 (rows_of z n) xs + discarded_after below ys had))
            (le-ltb 4294967295 (discarded_of 8 8 (rows_of z n) xs + discarded_after below ys had) (omega (arith, few)))
            ∙ ap (λ (k : ℕ). 12 when ltb k (length (stored_after below ys had))) same-room
            ∙ ap (λ (ts : List (List ℕ)). 12 when ltb (picture_room z (length tiles)) (length ts)) joined-stored
          where
            no-13 : (a b : Bool) → b ≡ false → first_applying (12 when a ∷ 13 when b ∷ []) ≡ 12 when a
            no-13 true b e = refl
            no-13 false b e = ap (λ (b : Bool). first_applying (13 when b ∷ [])) e
