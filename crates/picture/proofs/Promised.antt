-- From what was gathered to what a conversion promises.
-- Assumes nothing.
use mathlib.Core.Path.{◌≡◌, refl, sym, ap, ◌∙◌, subst}
use mathlib.Core.Bool.{Bool, true, false}
use mathlib.Core.List.{List, [], ◌∷◌}
use Prim.Native.Nat.{ℕ, zero, suc, ◌+◌, ◌-◌, ◌*◌, ◌/◌, ◌%◌, ◌^◌, ◌<◌, ◌≤◌}
use native.Mathlib.Omega.{arith}
use lib.Dec.{ltb, eqb}
use lib.ListN.{length, get_or, length-map, length-replicate, get_or-replicate, replicate}
use lib.Seq.{sets}
use borrow.Author.Tests.{lt-ltb, le-ltb, eq-eqb, ne_eqb}
use Rattle.words.specs.Answers.{◌when◌, first_applying}
use Rattle.words.specs.InnerResults.{refusal_number}
use Rattle.words.specs.Bytes.{bit}
use Rattle.words.specs.declared.refusal.Refusal.{Refusal}
use Rattle.std.specs.Prelude.{Ok, Err}
use Rattle.words.specs.Loops.{each}
use Rattle.words.proofs.Answers.{when-done, when-refused}
use Rattle.words.proofs.Items.{each-eq}
use Rattle.mode.specs.Table.{row}
use Rattle.mapentry.specs.Entry.{entry_bytes, IsEntry}
use Rattle.mapentry.specs.declared.Mapentry.{Mapentry}
use Rattle.tile.specs.Tile.{packed, unpacked}
use Rattle.tileset.specs.Finding.{tiles_in}
use Rattle.tileset.specs.declared.Found.{Found}
use Rattle.tileset.specs.declared.Found.TheVariants.{At, Nothing}
use Rattle.tileset.proofs.Keeping.{kept-count}
use Rattle.tileset.proofs.NumberLaws.{first-8}
use Rattle.tileset.proofs.Stores.{tiles-long}
use Rattle.picture.specs.Entries.{entry_as, entry_for}
use Rattle.picture.specs.Converting.{places, picture_tiles, picture_room, pictured}
use Rattle.picture.specs.Continuing.{unpacked_tiles, stored_after, discarded_after, found_after, tile_bytes_after, map_bytes_after, GoesOn}
use Rattle.picture.specs.Inner.{IsPicture, CanGoOn, tile_at, code_of, entry_coded, Stored, tiles_of, first_tiles, HasStored, Indexes, Gathers, GatheredWith, put_tiles, put_entries, PutsPicture, PutAs, goes_on_says}
use Rattle.picture.specs.InnerResults.{picture_by}
use Rattle.picture.specs.declared.Settings.{Settings}
use Rattle.picture.specs.declared.Counts.{Counts}
use Rattle.picture.specs.declared.Picture.{Picture}
use Rattle.picture.specs.declared.stored.Source.{Source}
use Rattle.picture.specs.declared.stored.Store.{Store}
use Rattle.picture.proofs.Cells.{some-8}
use Rattle.words.proofs.Refusing.{refusal-not-done}
use Rattle.picture.proofs.Refusing.{picture-refused}
use Rattle.picture.proofs.Checks.{some-depth, room-named, room_most, room-bytes}
use Rattle.picture.proofs.Converted.{length-tiles, look-fits}
use Rattle.index.specs.Inner.{Indexed}
use Rattle.picture.proofs.Storing.{is-full}
use Rattle.picture.proofs.Tiles.{stored-long, stored_at, is-taken}

-- ---- an entry, from its code

code-place : (k : ℕ) (h v : Bool) → (k * 4 + bit h + 2 * bit v) / 4 ≡ k
code-place k true true = omega arith
code-place k true false = omega arith
code-place k false true = omega arith
code-place k false false = omega arith

code-h : (k : ℕ) (h v : Bool) → eqb ((k * 4 + bit h + 2 * bit v) % 2) 1 ≡ h
code-h k true true = eq-eqb ((k * 4 + 1 + 2 * 1) % 2) 1 (omega arith)
code-h k true false = eq-eqb ((k * 4 + 1 + 2 * 0) % 2) 1 (omega arith)
code-h k false true = ne_eqb ((k * 4 + 0 + 2 * 1) % 2) 1 (λ e. omega arith)
code-h k false false = ne_eqb ((k * 4 + 0 + 2 * 0) % 2) 1 (λ e. omega arith)

code-v : (k : ℕ) (h v : Bool) → eqb ((k * 4 + bit h + 2 * bit v) / 2 % 2) 1 ≡ v
code-v k true true = eq-eqb ((k * 4 + 1 + 2 * 1) / 2 % 2) 1 (omega arith)
code-v k true false = ne_eqb ((k * 4 + 1 + 2 * 0) / 2 % 2) 1 (λ e. omega arith)
code-v k false true = eq-eqb ((k * 4 + 0 + 2 * 1) / 2 % 2) 1 (omega arith)
code-v k false false = ne_eqb ((k * 4 + 0 + 2 * 0) / 2 % 2) 1 (λ e. omega arith)

pub entry-back : (m palette : ℕ) (found : Found) → entry_coded m palette (code_of found) ≡ entry_for m 8 8 palette found
entry-back m palette (At k f) = rw (code-place k.0 f.h f.v, code-h k.0 f.h f.v, code-v k.0 f.h f.v)
entry-back m palette Nothing = ap (λ (n : ℕ). entry_as n palette false false) (first-8 m 0)

-- ---- how many

pub had-long : (z : Settings) (bytes : List ℕ) (held : ℕ) → length (unpacked_tiles z bytes held) ≡ held
had-long z bytes held = length-map (tiles_in (z.depth * 8) bytes held) (unpacked z.mode z.depth 8 8) ∙ tiles-long (z.depth * 8) bytes held

-- each tile of the picture is stored or discarded
pub counted-after : (z : Settings) (pixels : List ℕ) (had : List (List ℕ)) → length (stored_after z pixels had) + discarded_after z pixels had ≡ length had + places z
unfolding stored_after discarded_after
counted-after z pixels had =
    kept-count z.flip 8 8 z.discard had (picture_tiles 8 8 z pixels) (λ lt. some-8) ∙ ap (λ (k : ℕ). length had + k) (length-tiles 8 8 some-8 z pixels)

-- ---- before anything is gathered

module _ {z : Settings} {held first len tile_space map_space : ℕ} (c : CanGoOn z held first len tile_space map_space) where
  pub shallow : 0 < z.depth
  shallow = some-depth c.picture.mode c.picture.map c.picture.depth

  pub few-room : picture_room z tile_space ≤ 4096
  few-room = room_most z tile_space c.picture.mode

pub none-taken : {z : Settings} {pixels tiles : List ℕ} {held first map_space : ℕ} → CanGoOn z held first (length pixels) (length tiles) map_space
    → Stored z pixels tiles held (replicate 4096 0) held
none-taken {z} {pixels} {tiles} c =
    record {
      picture = c.picture;
      written = room-bytes z (length tiles) (shallow c) c.room;
      few = omega (arith, c.room, few-room c);
      long = length-replicate {A = ℕ} 4096 0;
      taken = λ k up lt. absurd (omega arith);
    }

pub no-heads : (b : ℕ) → b < 4096 → get_or {A = ℕ} (replicate 4096 0) b 0 ≡ 0
no-heads b lt = get_or-replicate 4096 b 0 0 lt

-- with the index of those that are written
pub gather-start : {s : Source} {t u : Store} {room : ℕ} {codes : List ℕ} → HasStored s t t.held → Indexes s t t.held u → t.held ≤ room → room ≤ 4096 → length codes ≡ 4096
    → Gathers s u room codes
gather-start {s} {t} {u} stored i within most long =
    let same : tiles_of s u ≡ first_tiles s t t.held = rw (i.held, i.from, i.count) in
    record {
      stored = rw (i.held, i.from, i.count) stored;
      written = i.count ∙ sym i.held;
      within = omega (arith, i.held);
      most = most;
      index = subst (λ (ts : List (List ℕ)). Indexed s.settings.flip ts u.index) (sym same) i.index;
      long = long;
    }

-- ---- the number

module _ (z : Settings) (pixels : List ℕ) (had : List (List ℕ)) (discarded tile_space : ℕ) where
  abbrev need : ℕ
  need = length (stored_after z pixels had)

  abbrev total : ℕ
  total = discarded + discarded_after z pixels had

  says_of : (a b : Bool) → ltb (picture_room z tile_space) need ≡ a → ltb 4294967295 total ≡ b → goes_on_says z pixels had discarded tile_space ≡ first_applying (12 when a ∷ 13 when b ∷ [])
  unfolding goes_on_says
  says_of a b p q = rw (p, q)

  pub goes-12 : picture_room z tile_space < need → 12 ≡ goes_on_says z pixels had discarded tile_space
  goes-12 full = sym (says_of true (ltb 4294967295 total) (lt-ltb (picture_room z tile_space) need full) refl)

  pub goes-full : (e : Refusal) → refusal_number e ≡ 12 when ltb (picture_room z tile_space) need → refusal_number e ≡ goes_on_says z pixels had discarded tile_space
  goes-full e given =
      let full = is-full (picture_room z tile_space) e need given in
      given ∙ ap (λ (b : Bool). 12 when b) (lt-ltb (picture_room z tile_space) need full) ∙ goes-12 full

  module _ (room : need ≤ picture_room z tile_space) where
    pub goes-13 : 4294967295 < total → 13 ≡ goes_on_says z pixels had discarded tile_space
    goes-13 many = sym (says_of false true (le-ltb (picture_room z tile_space) need room) (lt-ltb 4294967295 total many))

    pub goes-0 : total ≤ 4294967295 → goes_on_says z pixels had discarded tile_space ≡ 0
    goes-0 few = says_of false false (le-ltb (picture_room z tile_space) need room) (le-ltb 4294967295 total few)

-- ---- what was gathered

module _ {s : Source} {room : ℕ} {t : Store} {codes : List ℕ} (g : GatheredWith s room t codes) where
  abbrev z : Settings
  z = s.settings

  abbrev pixels : List ℕ
  pixels = s.pixels.now

  abbrev bytes : List ℕ
  bytes = s.tiles.now

  abbrev held : ℕ
  held = t.held

  abbrev count : ℕ
  count = t.count

  abbrev had : List (List ℕ)
  had = unpacked_tiles z bytes held

  abbrev stored : List (List ℕ)
  stored = stored_after z pixels had

  pub stored-count : length stored ≡ count
  stored-count = ap (λ (ts : List (List ℕ)). length ts) (sym g.is) ∙ stored-long z pixels bytes held t.from count

  pub sum-after : count + discarded_after z pixels had ≡ held + places z
  sum-after = omega (arith, stored-count, counted-after z pixels had, had-long z bytes held)

  -- ---- the bytes

  tile-there : (k : ℕ) → k < count - held → tile_at z pixels (get_or t.from (held + k) 0) ≡ get_or stored (length had + k) []
  tile-there k lt =
      sym (is-taken z pixels bytes held t.from (held + k) (omega arith))
      ∙ sym (stored_at z pixels bytes held t.from count (held + k) (omega arith))
      ∙ ap (λ (ts : List (List ℕ)). get_or ts (held + k) []) g.is
      ∙ ap (λ (n : ℕ). get_or stored (n + k) []) (sym (had-long z bytes held))

  tiles-written : put_tiles z pixels t ≡ tile_bytes_after z pixels had
  unfolding tile_bytes_after
  tiles-written =
      let more : count - held ≡ length stored - length had = omega (arith, stored-count, had-long z bytes held) in
      each-eq (count - held) (λ k. packed z.mode z.depth 8 8 (tile_at z pixels (get_or t.from (held + k) 0))) (λ k. packed z.mode z.depth 8 8 (get_or stored (length had + k) []))
      (λ k lt. ap (packed z.mode z.depth 8 8) (tile-there k lt))
      ∙ ap (λ (n : ℕ). each n (λ k. packed z.mode z.depth 8 8 (get_or stored (length had + k) []))) more

  abbrev entry : ℕ → Mapentry
  entry i = entry_coded z.mode z.palette (get_or codes i 0)

  entry_at : (i : ℕ) → i < places z → entry i ≡ entry_for z.mode 8 8 z.palette (found_after z pixels had i)
  entry_at i lt = ap (entry_coded z.mode z.palette) (g.coded i lt) ∙ entry-back z.mode z.palette (found_after z pixels had i)

  map-written : put_entries z.mode z.palette codes (places z) ≡ map_bytes_after z pixels had
  unfolding map_bytes_after
  map-written =
      each-eq (places z) (λ i. entry_bytes z.mode (entry i)) (λ i. entry_bytes z.mode (entry_for z.mode 8 8 z.palette (found_after z pixels had i)))
      (λ i lt. ap (entry_bytes z.mode) (entry_at i lt))

  entry-fits : {len : ℕ} → IsPicture z len → count ≤ 2 ^ (row z.mode).tile → (i : ℕ) → i < places z → IsEntry z.mode (entry i)
  unfolding found_after
  entry-fits s named i lt =
      subst (IsEntry z.mode) (sym (entry_at i lt)) (look-fits s stored (get_or (picture_tiles 8 8 z pixels) i []) (omega (arith, stored-count)))

  -- they can be put, in the buffers that there are
  pub puts-picture : {first total : ℕ} {map : List ℕ} → CanGoOn z held first (length pixels) (length bytes) (length map) → room ≡ picture_room z (length bytes) → total ≤ 4294967295
      → PutsPicture z pixels t codes total first bytes map
  puts-picture c is small =
      let within : count ≤ picture_room z (length bytes) = omega (arith, g.within) in
      record {
        as_tiles = record { stored = g.stored; above = g.above; space = room-bytes z (length bytes) (shallow c) within };
        as_map = record {
          few = c.few;
          mode = c.picture.mode;
          entries = λ i lt. entry-fits c.picture (omega (arith, within, room-named z (length bytes))) i lt;
          space = c.space;
        };
        small = small;
      }

  -- and then the promise is met
  pub put-done : {discarded total first : ℕ} {map tiles_after map_after : List ℕ} {r : Counts} {k : ℕ} → total ≡ discarded + (held + places z - count)
      → PutAs z pixels t codes total first bytes map r tiles_after map_after → k ≡ 0 → GoesOn k z pixels had discarded first bytes map (picture_by (Ok r)) tiles_after map_after
  put-done {discarded} {total} {first} {map} {k = k} sum p e =
      let size = z.depth * 8 in
      let line = (row z.mode).entry in
      let due = discarded + discarded_after z pixels had in
      let answer : pictured 0 count total (count * size) ((first + places z) * line) ≡ pictured 0 (length stored) due (length stored * size) ((first + places z) * line) =
      pictured-eq (sym stored-count) (omega (arith, sum, sum-after)) in
      record {
        answer = ap (λ (k : Counts). picture_by (Ok k)) p.answer ∙ answer ∙ ap (λ (i : ℕ). pictured i (length stored) due (length stored * size) ((first + places z) * line)) (sym e);
        lent =
            p.lent ∙ ap (sets bytes (held * size)) tiles-written
            ∙ ap (λ (n : ℕ). sets bytes (n * size) (tile_bytes_after z pixels had)) (sym (had-long z bytes held))
            ∙ sym (when-done k (sets bytes (length had * size) (tile_bytes_after z pixels had)) bytes e);
        also_lent =
            p.also_lent ∙ ap (sets map (first * line)) map-written
            ∙ sym (when-done k (sets map (first * line) (map_bytes_after z pixels had)) map e);
      }
    where
      pictured-eq : {a a' b b' m : ℕ} → a ≡ a' → b ≡ b' → pictured 0 a b (a * (z.depth * 8)) m ≡ pictured 0 a' b' (a' * (z.depth * 8)) m
      pictured-eq p q = rw (p, q)

-- ---- what is refused

none-counted : (k a b c d : ℕ) → (k ≡ 0 → ⊥) → pictured k 0 0 0 0 ≡ pictured k a b c d
none-counted zero a b c d h = absurd (h refl)
none-counted (suc k) a b c d h = refl

module _ {k : ℕ} {z : Settings} {pixels : List ℕ} {had : List (List ℕ)} {discarded first : ℕ} {tiles map : List ℕ} {r : Picture} where
  pub refused-on : (n : ℕ) → n ≡ k → (n ≡ 0 → ⊥) → r ≡ pictured n 0 0 0 0 → GoesOn k z pixels had discarded first tiles map r tiles map
  refused-on n e h a =
      let due : k ≡ 0 → ⊥ = λ z. h (e ∙ z) in
      record {
        answer = a ∙ ap (λ (i : ℕ). pictured i 0 0 0 0) e ∙ none-counted k _ _ _ _ due;
        lent = sym (when-refused k (sets tiles (length had * (z.depth * 8)) (tile_bytes_after z pixels had)) tiles due);
        also_lent = sym (when-refused k (sets map (first * (row z.mode).entry) (map_bytes_after z pixels had)) map due);
      }

-- and so where the answer is the refusal that is due
pub refused-by : {k : ℕ} {z : Settings} {pixels : List ℕ} {had : List (List ℕ)} {discarded first : ℕ} {tiles map : List ℕ} (e : Refusal)
    → refusal_number e ≡ k → GoesOn k z pixels had discarded first tiles map (picture_by (Err e)) tiles map
refused-by e is = refused-on (refusal_number e) is (refusal-not-done e) (picture-refused e)
