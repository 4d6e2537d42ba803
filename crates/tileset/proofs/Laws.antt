-- The laws of document 01's "Sets and whole tiles", as a reader wants them.
-- Assumes nothing.
use mathlib.Core.Path.{◌≡◌, refl, sym, ap, ◌∙◌}
use mathlib.Core.Bool.{Bool, true, false}
use mathlib.Core.List.{List, [], ◌∷◌, ◌++◌, map}
use Prim.Native.Nat.{ℕ, ◌+◌, ◌-◌, ◌*◌, ◌/◌, ◌%◌, ◌<◌, ◌≤◌}
use native.Mathlib.Nat.{div-add-mod'}
use native.Mathlib.Omega.{arith}
use lib.Dec.{eqb}
use lib.ListN.{length}
use borrow.Author.Tests.{eqb-true, eqb-false}
use Rattle.words.proofs.Answers.{when-done, when-refused}
use Rattle.mode.specs.Table.{pce-sprite}
use Rattle.tileset.specs.Sets.{set_says, new_set, no_set, emptied, answered_set}
use Rattle.tileset.specs.Finding.{tiles_in}
use Rattle.tileset.specs.Adding.{Adds}
use Rattle.tileset.specs.Matched.{Apart}
use Rattle.tileset.specs.Keeping.{keep_all, repeats}
use Rattle.tileset.specs.Numbers.{row_cells, first_cell}
use Rattle.tileset.specs.Reading.{whole_tiles, tile_size, read_count, read_says, read_set, Reads}
use Rattle.tileset.specs.History.{set_tiles, Call, add_call, reset_call, look_call, Promised, call_number, set_after, store_after, last_set, last_store, Calls}
use Rattle.tileset.specs.History.{Since, since_reset, since_start, tiles_read, since_read, since_call, since_calls, asked, call_of, calls_of}
use Rattle.tileset.specs.declared.Set.{Set}
use Rattle.tileset.specs.declared.SetAnswer.{SetAnswer}
use Rattle.tileset.proofs.Says.{says}
use Rattle.tileset.proofs.Sizes.{set-of, grid-set}
use Rattle.tileset.proofs.ReadingLaws.{sprite-unit, sprite-count, cell-count, read_whole, cell-size, cells-before, tile-complete, next-incomplete, own-cell}
use Rattle.tileset.proofs.Straight.{single-tiles}
use Rattle.tileset.proofs.Matched.{apart_none}
use Rattle.tileset.proofs.TilesRead.{tiles-read}
use Rattle.tileset.proofs.History.{Stands, stands-start, after-calls, first-tiles, stands-discarded, stands-apart}

-- ---- "A refusal returns its number, all else returned 0 or nothing; lent bytes and set state are untouched."

pub answer-refused : (n : ℕ) (next z : Set) {r : SetAnswer} → r ≡ answered_set n next z → (r.refusal ≡ 0 → ⊥) → r.set ≡ z
answer-refused n next z a some = ap (λ (x : SetAnswer). x.set) a ∙ when-refused n next z (λ e. some (ap (λ (x : SetAnswer). x.refusal) a ∙ e))

module _ {n : ℕ} {z next : Set} {before with after : List ℕ} {r : SetAnswer} (a : Adds n z next before with r after) where
  number_is : r.refusal ≡ n
  number_is = ap (λ (x : SetAnswer). x.refusal) a.answer

  pub adds-refused : (r.refusal ≡ 0 → ⊥) → (r.set ≡ z) × (after ≡ before)
  adds-refused some = (answer-refused n next z a.answer some, a.lent ∙ when-refused n with before (λ e. some (number_is ∙ e)))

  pub adds-done : r.refusal ≡ 0 → (r.set ≡ next) × (after ≡ with)
  adds-done e =
      (ap (λ (x : SetAnswer). x.set) a.answer ∙ when-done n next z (sym number_is ∙ e), a.lent ∙ when-done n with before (sym number_is ∙ e))

pub reads-refused : (m d w h : ℕ) (flips : Bool) (bytes store : List ℕ) {r : SetAnswer} {after : List ℕ} → Reads m d w h flips bytes store r after
    → (r.refusal ≡ 0 → ⊥) → (r.set ≡ no_set) × (after ≡ store)
reads-refused m d w h flips bytes store a some = adds-refused a some

pub call-refused : (z : Set) (s : List ℕ) (c : Call) → Promised z s c → (call_number c ≡ 0 → ⊥) → (set_after z c ≡ z) × (store_after s c ≡ s)
call-refused z s (add_call p r after) k some = adds-refused k some
call-refused z s (reset_call r) k some = (answer-refused (says z) (emptied z) z k some, refl)
call-refused z s (look_call p r) k some = (refl, refl)

-- ---- "Over any adds since the last reset, store, state and settings else unchanged": over any calls, refused ones and look-ups among them

-- first is what is counted by at the start: `since_start z s` of any set, `since_reset` of a new one, `since_read ..` of one that was read
module _ (z : Set) (s : List ℕ) (first : Since) (from : first ≡ since_start z s) (cs : List Call) (k : Calls z s cs) where
  abbrev t : Since
  t = since_calls z first cs

  abbrev end : Set
  end = last_set z cs

  stands : Stands [] z t end (last_store s cs)
  stands = after-calls z (rw from (stands-start [] z s)) cs k

  -- "stored + discarded = adds answered 0"
  pub calls-sum : end.stored + end.discarded ≡ t.stored + t.discarded + length t.taken
  calls-sum = stands.sum

  -- "discarded is the number of those whose tile matched one read or accepted earlier (0 with discarding off)"
  pub calls-discarded : end.discarded ≡ t.discarded + repeats z.discarding z.flips z.width z.height t.tiles t.taken
  calls-discarded = stands-discarded [] z t stands

  -- with discarding on, no two stored tiles match, where none did at the start, or at the last reset, when there are none
  pub calls-apart : z.discarding ≡ true → Apart z.flips z.width z.height t.tiles
      → Apart z.flips z.width z.height (set_tiles end (last_store s cs))
  calls-apart = stands-apart [] z t stands

  pub first-apart : Apart z.flips z.width z.height first.tiles → Apart z.flips z.width z.height t.tiles
  first-apart = first-tiles z (Apart z.flips z.width z.height) (apart_none z.flips z.width z.height) first cs

  -- the stored tiles are what is kept of the tiles accepted
  pub calls-tiles : set_tiles end (last_store s cs) ≡ keep_all z.discarding z.flips z.width z.height t.tiles t.taken
  calls-tiles = stands.tiles

-- calls after calls, and what is counted from a reset on: whatever came before it does not count
pub since-append : (z : Set) (t : Since) (xs ys : List Call) → since_calls z t (xs ++ ys) ≡ since_calls z (since_calls z t xs) ys
since-append z t [] ys = refl
since-append z t (x ∷ xs) ys = since-append z (since_call z t x) xs ys

pub since-reset : (z : Set) (t : Since) (r : SetAnswer) (cs : List Call) → r.refusal ≡ 0 → since_calls z t (reset_call r ∷ cs) ≡ since_calls z since_reset cs
since-reset z t r cs e = ap (λ (x : Since). since_calls z x cs) (when-done r.refusal since_reset t e)

pub new-start : (m d w h : ℕ) (flips discarding : Bool) (limit : ℕ) (s : List ℕ) → since_reset ≡ since_start (new_set m d w h flips discarding limit) s
unfolding tiles_in
new-start m d w h flips discarding limit s = refl

-- "one possible answer and one content of lent memory": calls that kept their promises are those that what was asked leaves
pub call-only : (z : Set) (s : List ℕ) (c : Call) → Promised z s c → c ≡ call_of z s (asked c)
call-only z s (add_call p r after) k = rw (k.answer, k.lent)
call-only z s (reset_call r) k = ap reset_call k
call-only z s (look_call p r) k = ap (look_call p) k

pub calls-only : (z : Set) (s : List ℕ) (cs : List Call) → Calls z s cs → cs ≡ calls_of z s (map asked cs)
calls-only z s [] k = refl
calls-only z s (c ∷ cs) k =
    ap (λ (l : List Call). c ∷ l) (calls-only (set_after z c) (store_after s c) cs k.1)
    ∙ ap (λ (x : Call). x ∷ calls_of (set_after z x) (store_after s x) (map asked cs)) (call-only z s c k.0)

-- ---- a set that was read

module _ (m d w h : ℕ) (flips : Bool) (bytes store : List ℕ) {r : SetAnswer} {after : List ℕ}
    (a : Reads m d w h flips bytes store r after) (done : r.refusal ≡ 0) where
  pub read_set_lem : r.set ≡ read_set m d w h flips (read_count m d w h (length bytes))
  read_set_lem = (adds-done a done).0

  -- its tiles are the tiles read
  pub read-tiles : set_tiles r.set after ≡ tiles_read m d w h bytes (read_count m d w h (length bytes))
  read-tiles =
      ap (λ (x : Set). set_tiles x after) read_set_lem
      ∙ ap (λ (l : List ℕ). set_tiles (read_set m d w h flips (read_count m d w h (length bytes))) l) (adds-done a done).1
      ∙ tiles-read m d w h bytes store

  -- "its sum starts from the count read", and the tiles read count as seen: the laws of calls take this
  pub read-start : since_read m d w h bytes ≡ since_start r.set after
  read-start =
      sym
      (ap (λ (x : Set). record { stored = x.stored; discarded = x.discarded; tiles = set_tiles r.set after; taken = [] }) read_set_lem
      ∙ ap (λ (l : List (List ℕ)). record { stored = read_count m d w h (length bytes); discarded = 0; tiles = l; taken = [] }) read-tiles)

-- at 8x8 every cell is a tile, and in pce_sprite no byte is left
cells-case : (m d len : ℕ) (b : Bool) → eqb m pce-sprite ≡ b → read_count m d 8 8 len ≡ len / (d * 8)
cells-case m d len true e = sym (sprite-count m d 8 8 len (eqb-true m pce-sprite e)) ∙ ap (λ (k : ℕ). len / k) (cell-size d)
cells-case m d len false e = sym (cell-count m d 8 8 len (eqb-false m pce-sprite e)) ∙ single-tiles (row_cells m) (len / (d * 8))

pub read-cells : (m d len : ℕ) → read_count m d 8 8 len ≡ len / (d * 8)
read-cells m d len = cells-case m d len (eqb m pce-sprite) refl

pub read-sprites : (m d w h len space : ℕ) → m ≡ pce-sprite → read_says m d w h len space ≡ 0 → read_count m d w h len * tile_size d w h ≡ len
read-sprites m d w h len space is z =
    let whole : len % tile_size d w h ≡ 0 = ap (λ (k : ℕ). len % k) (sprite-unit m d w h len is) ∙ read_whole m d w h len space z in
    ap (λ (k : ℕ). k * tile_size d w h) (sym (sprite-count m d w h len is)) ∙ omega (arith, div-add-mod' len (tile_size d w h))

-- "stops at the first incomplete tile"
module _ (m d w h len : ℕ) (other : m ≡ pce-sprite → ⊥) where
  -- every cell of each tile that is read is there
  pub read-complete : (n i j : ℕ) → n < read_count m d w h len → i < h / 8 → j < w / 8 → first_cell m w h n + i * row_cells m + j < len / (d * 8)
  read-complete n i j lt hi hj =
      let whole : n < whole_tiles (row_cells m) (w / 8) (h / 8) (len / (d * 8)) = rw (cell-count m d w h len other) lt in
      omega (arith, cells-before (row_cells m) (w / 8) (h / 8) n i j hi hj, tile-complete (row_cells m) (w / 8) (h / 8) (len / (d * 8)) n whole)

  -- and the last cell of the tile after them is not
  pub read-stops : set_says m d w h ≡ 0 → len / (d * 8) ≤ first_cell m w h (read_count m d w h len) + (h / 8 - 1) * row_cells m + (w / 8 - 1)
  read-stops z =
      let grid = grid-set (set-of m d w h z) other in
      rw (← cell-count m d w h len other) (next-incomplete (row_cells m) (w / 8) (h / 8) (len / (d * 8)) (own-cell (row_cells m) (w / 8) (h / 8) grid))
