-- One strip, over any record and any buffers: refused, it changes nothing, and accepted, it writes its own tiles and entries alone.
-- Assumes nothing.
use mathlib.Core.Path.{◌≡◌, sym, ap, ◌∙◌, subst}
use mathlib.Core.List.{List, [], ◌++◌, append_assoc}
use Prim.Native.Nat.{ℕ, ◌+◌, ◌-◌, ◌*◌, ◌≤◌}
use native.Mathlib.Nat.{add-mul, mul-le-mul_right, le_trans}
use native.Mathlib.Omega.{arith}
use lib.Dec.{ltb}
use lib.ListN.{length, get_or, take, drop, length-append}
use lib.Seq.{sets, sets-eq, length-take-le, take_at, drop_at}
use borrow.Author.Tests.{ltb-false}
use Rattle.words.proofs.Answers.{all-passed, not-given, when-done, when-refused}
use Rattle.words.proofs.Loops.{length-each}
use Rattle.mode.specs.Table.{row}
use Rattle.mapentry.specs.Entry.{entry_bytes}
use Rattle.tile.specs.Tile.{packed}
use Rattle.tileset.proofs.Keeping.{all-grow}
use Rattle.picture.specs.Entries.{entry_for}
use Rattle.picture.specs.Converting.{places, picture_tiles, picture_room}
use Rattle.picture.specs.Continuing.{stored_after, found_after, tile_bytes_after, map_bytes_after, goes_on_checks}
use Rattle.picture.specs.Inner.{goes_on_says}
use Rattle.picture.specs.declared.Settings.{Settings}
use Rattle.picture.specs.declared.Picture.{Picture}
use Rattle.picture.proofs.Checks.{IsSize, native-tile, room-bytes}
use Rattle.picture.proofs.Converted.{packed-size, entry-size}
use Rattle.picture.proofs.Promised.{had-long}
use Rattle.strip.specs.Strips.{settings_of, strip_of, written_by, take_says}
use Rattle.strip.specs.Calls.{Between, Strip, Kept}
use Rattle.strip.specs.declared.Run.{Run}
use Rattle.strip.proofs.Says.{settings-sized, IsStrip, is-strip, entries-low, take-passed}

-- bytes put into a list: those before and after stay
module _ (l vs : List ℕ) (i k : ℕ) (end : i + length vs ≡ k) (inside : k ≤ length l) where
  in_parts : sets l i vs ≡ take i l ++ vs ++ drop (i + length vs) l
  in_parts = sets-eq vs l i (omega arith)

  front_long : length (take i l) ≡ i
  front_long = length-take-le i l (omega arith)

  put-before : take i (sets l i vs) ≡ take i l
  put-before =
      ap (take i) (in_parts ∙ append_assoc (take i l) vs (drop (i + length vs) l)) ∙ take_at (take i l) (vs ++ drop (i + length vs) l) i front_long

  put-after : drop k (sets l i vs) ≡ drop k l
  put-after =
      ap (drop k) in_parts
      ∙ drop_at (take i l ++ vs) (drop (i + length vs) l) k (omega (arith, length-append (take i l) vs, front_long))
      ∙ ap (λ (n : ℕ). drop n l) end

module _ (b : Between) (c : Strip) (kept : Kept b c) where
  abbrev r : Run
  r = b.run

  abbrev due : ℕ
  due = take_says r c.pixels b.tiles (length b.map)

  told : c.answer.refusal ≡ due
  told = ap (λ (x : Picture). x.refusal) kept.converts.answer

  -- "A refused strip changes neither record nor buffers."
  pub refused-strip : (c.answer.refusal ≡ 0 → ⊥) → c.left ≡ b
  refused-strip h =
      let no : due ≡ 0 → ⊥ = λ e. h (told ∙ e) in
      left-eq (kept.run ∙ when-refused due _ r no) (kept.converts.lent ∙ when-refused due _ b.tiles no) (kept.converts.also_lent ∙ when-refused due _ b.map no)
    where
      left-eq : c.left.run ≡ r → c.left.tiles ≡ b.tiles → c.left.map ≡ b.map → c.left ≡ b
      left-eq p q s = rw (← p, ← q, ← s)

  -- "bytes of earlier strips stay", and those behind its own: an accepted strip writes its own tiles and entries alone
  module _ (done : c.answer.refusal ≡ 0) where
    abbrev size : ℕ
    size = r.depth * 8

    abbrev had : List (List ℕ)
    had = written_by r b.tiles

    abbrev below : Settings
    below = strip_of r c.pixels

    zero' : due ≡ 0
    zero' = sym told ∙ done

    strip : IsStrip r (length c.pixels) (length b.tiles) (length b.map)
    strip = is-strip r (length c.pixels) (length b.tiles) (length b.map) (take-passed r c.pixels b.tiles (length b.map) zero').0

    sized : IsSize r.mode r.depth r.columns r.rows
    sized = settings-sized (settings_of r) strip.settings

    abbrev stored : ℕ
    stored = length (stored_after below c.pixels had)

    more : length had ≤ stored
    unfolding stored_after
    more = all-grow r.discard r.flip 8 8 had (picture_tiles 8 8 below c.pixels)

    new-long : length (tile_bytes_after below c.pixels had) ≡ (stored - length had) * size
    unfolding tile_bytes_after
    new-long =
        length-each (stored - length had) size (λ k. packed r.mode r.depth 8 8 (get_or (stored_after below c.pixels had) (length had + k) []))
        (λ k. packed-size (native-tile sized.mode sized.map sized.depth) (get_or (stored_after below c.pixels had) (length had + k) []))

    tiles-end : length had * size + length (tile_bytes_after below c.pixels had) ≡ stored * size
    tiles-end = omega (arith, new-long, add-mul (length had) (stored - length had) size, ap (λ (k : ℕ). k * size) (let e : length had + (stored - length had) ≡ stored = omega (arith, more) in e))

    tiles-room : stored * size ≤ length b.tiles
    unfolding goes_on_says
    tiles-room =
        let later = (take-passed r c.pixels b.tiles (length b.map) zero').1 in
        let full = ltb (picture_room below (length b.tiles)) stored in
        let le = ltb-false (picture_room below (length b.tiles)) stored (not-given 11 full (all-passed (goes_on_checks below c.pixels had r.discarded (length b.tiles)) later 0)) in
        room-bytes below (length b.tiles) sized.shallow le

    abbrev entry : ℕ
    entry = (row r.mode).entry

    entries-long' : length (map_bytes_after below c.pixels had) ≡ places below * entry
    unfolding map_bytes_after
    entries-long' =
        length-each (places below) entry (λ i. entry_bytes r.mode (entry_for r.mode 8 8 r.palette (found_after below c.pixels had i)))
        (λ i. entry-size r.mode (entry_for r.mode 8 8 r.palette (found_after below c.pixels had i)))

    map-end : r.taken * r.columns * entry + length (map_bytes_after below c.pixels had) ≡ (r.taken * r.columns + places below) * entry
    map-end = omega (arith, entries-long', add-mul (r.taken * r.columns) (places below) entry)

    map-room : (r.taken * r.columns + places below) * entry ≤ length b.map
    map-room = le_trans (mul-le-mul_right entry (entries-low strip)) strip.space

    tile-bytes : c.answer.tile_bytes ≡ stored * size
    tile-bytes = ap (λ (x : Picture). x.tile_bytes) kept.converts.answer ∙ when-done due (stored * size) 0 zero'

    map-bytes : c.answer.map_bytes ≡ (r.taken * r.columns + places below) * entry
    map-bytes = ap (λ (x : Picture). x.map_bytes) kept.converts.answer ∙ when-done due ((r.taken * r.columns + places below) * entry) 0 zero'

    tiles-are : c.left.tiles ≡ sets b.tiles (length had * size) (tile_bytes_after below c.pixels had)
    tiles-are = kept.converts.lent ∙ when-done due (sets b.tiles (length had * size) (tile_bytes_after below c.pixels had)) b.tiles zero'

    map_is : c.left.map ≡ sets b.map (r.taken * r.columns * entry) (map_bytes_after below c.pixels had)
    map_is = kept.converts.also_lent ∙ when-done due (sets b.map (r.taken * r.columns * entry) (map_bytes_after below c.pixels had)) b.map zero'

    pub own-tiles : (take (r.tiles * size) c.left.tiles ≡ take (r.tiles * size) b.tiles) × (drop c.answer.tile_bytes c.left.tiles ≡ drop c.answer.tile_bytes b.tiles)
    own-tiles =
        let new = tile_bytes_after below c.pixels had in (
          subst (λ (n : ℕ). take (n * size) c.left.tiles ≡ take (n * size) b.tiles) (had-long (settings_of r) b.tiles r.tiles)
              (ap (take (length had * size)) tiles-are ∙ put-before b.tiles new (length had * size) (stored * size) tiles-end tiles-room),
          subst (λ (n : ℕ). drop n c.left.tiles ≡ drop n b.tiles) (sym tile-bytes)
              (ap (drop (stored * size)) tiles-are ∙ put-after b.tiles new (length had * size) (stored * size) tiles-end tiles-room),
        )

    pub own-entries : (take (r.taken * r.columns * entry) c.left.map ≡ take (r.taken * r.columns * entry) b.map)
        × (drop c.answer.map_bytes c.left.map ≡ drop c.answer.map_bytes b.map)
    own-entries =
        let new = map_bytes_after below c.pixels had in
        rw (map_is, map-bytes) (
          put-before b.map new (r.taken * r.columns * entry) ((r.taken * r.columns + places below) * entry) map-end map-room,
          put-after b.map new (r.taken * r.columns * entry) ((r.taken * r.columns + places below) * entry) map-end map-room,
        )
