-- A whole picture goes on after nothing: what a conversion that goes on promises is then what a conversion does.
-- Assumes nothing.
use mathlib.Core.Path.{◌≡◌, refl, sym, ap, ◌∙◌, subst}
use mathlib.Core.Bool.{Bool, true, false}
use mathlib.Core.List.{List, [], ◌∷◌}
use Prim.Native.Nat.{ℕ, zero, suc, ◌+◌, ◌-◌, ◌*◌, ◌≤◌}
use native.Mathlib.Nat.{zero-add, zero-mul, sub-zero}
use native.Mathlib.Omega.{arith}
use lib.Dec.{ltb}
use lib.ListN.{length, get_or}
use lib.Seq.{sets}
use borrow.Author.Tests.{le-ltb}
use Rattle.words.specs.Answers.{◌when◌, first_applying, unless, overwrite}
use Rattle.words.specs.Loops.{each}
use Rattle.words.proofs.Answers.{when-refused}
use Rattle.words.proofs.Items.{each-eq}
use Rattle.words.proofs.Loops.{sets-front}
use Rattle.mode.specs.Table.{row}
use Rattle.mapentry.specs.Entry.{entry_bytes}
use Rattle.tile.specs.Tile.{packed}
use Rattle.tileset.specs.Finding.{tiles_in}
use Rattle.tileset.specs.Keeping.{kept, discarded}
use Rattle.picture.specs.Entries.{entry_for}
use Rattle.picture.specs.Converting.{places, picture_room, stored_of, discarded_of, found_at, tile_bytes_of, map_bytes_of, pictured, answer_of, convert_says, Converts}
use Rattle.picture.specs.Continuing.{unpacked_tiles, stored_after, discarded_after, found_after, tile_bytes_after, map_bytes_after, GoesOn}
use Rattle.picture.specs.Inner.{asked_says, CanGoOn, goes_on_says}
use Rattle.picture.specs.declared.Settings.{Settings}
use Rattle.picture.specs.declared.Picture.{Picture}
use Rattle.picture.proofs.Cells.{some-8}
use Rattle.picture.proofs.Checks.{few-tiles, asked-sized, asked-picture, asked-map, to_room}
use Rattle.picture.proofs.Converted.{stored-need, stored-discarded, tile-bytes-length, map-bytes-length}
use Rattle.picture.proofs.Redrawn.{tiles-fit, map-fits}

-- ---- after no tile

pub no-tiles : (z : Settings) (bytes : List ℕ) → unpacked_tiles z bytes 0 ≡ []
unfolding tiles_in
no-tiles z bytes = refl

module _ (z : Settings) (pixels : List ℕ) where
  pub stored-first : stored_after z pixels [] ≡ stored_of 8 8 z pixels
  unfolding stored_after stored_of kept
  stored-first = refl

  pub discarded-first : discarded_after z pixels [] ≡ discarded_of 8 8 z pixels
  unfolding discarded_after discarded_of discarded
  discarded-first = refl

  found_first : (i : ℕ) → found_after z pixels [] i ≡ found_at 8 8 z pixels i
  unfolding found_after found_at stored_after stored_of kept
  found_first i = refl

  tiles-first : tile_bytes_after z pixels [] ≡ tile_bytes_of z pixels
  unfolding tile_bytes_after tile_bytes_of
  tiles-first =
      let pack : List (List ℕ) → ℕ → List ℕ = λ ts k. packed z.mode z.depth 8 8 (get_or ts k []) in
      ap (λ (ts : List (List ℕ)). each (length ts - 0) (λ k. pack ts (0 + k))) stored-first
      ∙ ap (λ (n : ℕ). each n (λ k. pack (stored_of 8 8 z pixels) (0 + k))) (sub-zero (length (stored_of 8 8 z pixels)))
      ∙ each-eq (length (stored_of 8 8 z pixels)) (λ k. pack (stored_of 8 8 z pixels) (0 + k)) (pack (stored_of 8 8 z pixels)) (λ k lt. ap (pack (stored_of 8 8 z pixels)) (zero-add k))

  map_first : map_bytes_after z pixels [] ≡ map_bytes_of z pixels
  unfolding map_bytes_after map_bytes_of
  map_first =
      each-eq (places z) (λ i. entry_bytes z.mode (entry_for z.mode 8 8 z.palette (found_after z pixels [] i)))
      (λ i. entry_bytes z.mode (entry_for z.mode 8 8 z.palette (found_at 8 8 z pixels i)))
      (λ i lt. ap (λ f. entry_bytes z.mode (entry_for z.mode 8 8 z.palette f)) (found_first i))

-- ---- the promise

module _ (z : Settings) (pixels tiles map : List ℕ) (asked : asked_says z (length pixels) (length map) ≡ 0) where
  few : places z ≤ 4096
  few = few-tiles (asked-sized z (length pixels) (length map) asked)

  pub can-go-on : CanGoOn z 0 0 (length pixels) (length tiles) (length map)
  can-go-on =
      record {
        picture = asked-picture z (length pixels) (length map) asked;
        room = omega arith;
        few = omega (arith, few);
        space = subst (λ (n : ℕ). n * (row z.mode).entry ≤ length map) (sym (zero-add (places z))) (asked-map z (length pixels) (length map) asked);
      }

  abbrev says : ℕ
  says = convert_says z pixels (length tiles) (length map)

  same_number : goes_on_says z pixels [] 0 (length tiles) ≡ says
  unfolding goes_on_says
  same_number =
      let room = picture_room z (length tiles) in
      no-13 (ltb room (length (stored_after z pixels []))) (ltb 4294967295 (0 + discarded_after z pixels []))
      (le-ltb 4294967295 (0 + discarded_after z pixels []) (omega (arith, discarded-first z pixels, stored-discarded 8 8 some-8 z pixels, few)))
      ∙ ap (λ (ts : List (List ℕ)). 12 when ltb room (length ts)) (stored-first z pixels)
      ∙ ap (λ (n : ℕ). 12 when ltb room n) (stored-need 8 8 some-8 z pixels)
      ∙ sym (to_room z pixels (length tiles) (length map) asked)
    where
      no-13 : (a b : Bool) → b ≡ false → first_applying (12 when a ∷ 13 when b ∷ []) ≡ 12 when a
      no-13 true b e = refl
      no-13 false b e = ap (λ (b : Bool). first_applying (13 when b ∷ [])) e

  same_answer : (n : ℕ) → pictured n (length (stored_after z pixels [])) (0 + discarded_after z pixels []) (length (stored_after z pixels []) * (z.depth * 8)) ((0 + places z) * (row z.mode).entry) ≡ answer_of n z pixels
  same_answer n =
      pictured-eq n (ap (λ (ts : List (List ℕ)). length ts) (stored-first z pixels)) (zero-add (discarded_after z pixels []) ∙ discarded-first z pixels)
      (ap (λ (ts : List (List ℕ)). length ts * (z.depth * 8)) (stored-first z pixels) ∙ sym (tile-bytes-length z pixels (asked-picture z (length pixels) (length map) asked)))
      (ap (λ (n : ℕ). n * (row z.mode).entry) (zero-add (places z)) ∙ sym (map-bytes-length z pixels))
    where
      pictured-eq : (n : ℕ) {a b a' b' t t' m m' : ℕ} → a ≡ a' → b ≡ b' → t ≡ t' → m ≡ m' → pictured n a b t m ≡ pictured n a' b' t' m'
      pictured-eq n p q r s = rw (p, q, r, s)

  front : (n at : ℕ) (out bytes : List ℕ) → at ≡ 0 → (n ≡ 0 → length bytes ≤ length out) → unless n (sets out at bytes) out ≡ unless n (overwrite out bytes) out
  front zero at out bytes e fits = ap (λ (k : ℕ). sets out k bytes) e ∙ sets-front out bytes (fits refl)
  front (suc n) at out bytes e fits = refl

  pub whole-converts : {n : ℕ} {had : List (List ℕ)} {r : Picture} {tiles_after map_after : List ℕ} → had ≡ [] → n ≡ goes_on_says z pixels had 0 (length tiles)
      → GoesOn n z pixels had 0 0 tiles map r tiles_after map_after → Converts says z pixels tiles map r tiles_after map_after
  whole-converts {n} {r = r} {tiles_after = ta} {map_after = ma} none is g =
      let number : n ≡ says = is ∙ ap (λ (ts : List (List ℕ)). goes_on_says z pixels ts 0 (length tiles)) none ∙ same_number in
      let w : GoesOn says z pixels [] 0 0 tiles map r ta ma =
      subst (λ (k : ℕ). GoesOn k z pixels [] 0 0 tiles map r ta ma) number (subst (λ (ts : List (List ℕ)). GoesOn n z pixels ts 0 0 tiles map r ta ma) none g) in
      record {
        answer = w.answer ∙ same_answer says;
        lent =
            w.lent ∙ ap (λ (l : List ℕ). unless says (sets tiles (0 * (z.depth * 8)) l) tiles) (tiles-first z pixels)
            ∙ front says (0 * (z.depth * 8)) tiles (tile_bytes_of z pixels) (zero-mul (z.depth * 8)) (tiles-fit z pixels (length tiles) (length map));
        also_lent =
            w.also_lent ∙ ap (λ (l : List ℕ). unless says (sets map (0 * (row z.mode).entry) l) map) (map_first z pixels)
            ∙ front says (0 * (row z.mode).entry) map (map_bytes_of z pixels) (zero-mul (row z.mode).entry) (map-fits z pixels (length tiles) (length map));
      }

-- ---- what is refused

none_made : (k : ℕ) (z : Settings) (pixels : List ℕ) → (k ≡ 0 → ⊥) → pictured k 0 0 0 0 ≡ answer_of k z pixels
none_made zero z pixels h = absurd (h refl)
none_made (suc k) z pixels h = refl

pub refused-picture : {k : ℕ} {z : Settings} {pixels tiles map : List ℕ} {r : Picture} (n : ℕ) → n ≡ k → (n ≡ 0 → ⊥) → r ≡ pictured n 0 0 0 0 → Converts k z pixels tiles map r tiles map
refused-picture {k} {z} {pixels} {tiles} {map} n e h a =
    let due : k ≡ 0 → ⊥ = λ z. h (e ∙ z) in
    record {
      answer = a ∙ ap (λ (i : ℕ). pictured i 0 0 0 0) e ∙ none_made k z pixels due;
      lent = sym (when-refused k (overwrite tiles (tile_bytes_of z pixels)) tiles due);
      also_lent = sym (when-refused k (overwrite map (map_bytes_of z pixels)) map due);
    }
