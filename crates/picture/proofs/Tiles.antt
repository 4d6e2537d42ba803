-- The tiles that a conversion has stored: those written before it, and tiles of its picture.
-- Assumes nothing.
use mathlib.Core.Path.{◌≡◌, refl, sym, ap, ◌∙◌, subst}
use mathlib.Core.Bool.{Bool}
use mathlib.Core.List.{List, [], ◌∷◌, ◌++◌, map, map-append}
use mathlib.Core.Logic.{⊎_elim}
use Prim.Native.Nat.{ℕ, zero, suc, ◌+◌, ◌*◌, ◌<◌, ◌≤◌}
use native.Mathlib.Nat.{eq-or-lt_of_le, le_of_suc-le-suc, not-suc-le-zero, ne_of_lt, zero-add}
use native.Mathlib.Numerals.{add-one}
use native.Mathlib.Omega.{arith}
use lib.ListN.{length, get_or, set, take, drop, length-append, length-set, get_or-append}
use lib.Seq.{get_or-append_seam, get_or-set_same, get_or-set_other, take_all}
use borrow.Author.Tests.{lt-ltb, le-ltb}
use Rattle.words.proofs.Items.{item-inside}
use Rattle.tile.specs.Tile.{unpacked}
use Rattle.flip.specs.Matching.{match_flip}
use Rattle.flip.specs.declared.Flip.{Flip}
use Rattle.std.specs.Prelude.{Option, Some, None}
use Rattle.flip.proofs.Equivalence.{not-both}
use Rattle.tileset.specs.Finding.{tiles_from, tiles_in, found_or, look_up, is_found}
use Rattle.tileset.specs.declared.Logical.{Logical}
use Rattle.tileset.specs.declared.Found.{Found}
use Rattle.tileset.specs.declared.Found.TheVariants.{At, Nothing}
use Rattle.tileset.proofs.Stores.{tiles_more}
use Rattle.index.specs.InnerKeys.{key}
use Rattle.index.specs.Inner.{IsEmpty, Indexed, Enters}
use Rattle.index.specs.declared.Index.{Index}
use Rattle.index.proofs.Entering.{indexed-none, entered}
use Rattle.picture.specs.Converting.{places}
use Rattle.picture.specs.Continuing.{unpacked_tiles}
use Rattle.picture.specs.Inner.{tile_at, stored_tile, stored_tiles, HasWritten, Stored, tiles_of, first_tiles, HasStored, LooksAt, Finds, IndexesWritten, Indexes}
use Rattle.picture.specs.declared.Settings.{Settings}
use Rattle.picture.specs.declared.stored.Source.{Source}
use Rattle.picture.specs.declared.stored.Store.{Store}

module _ (z : Settings) (pixels bytes : List ℕ) (held : ℕ) where
  -- ---- the tiles

  abbrev tile : List ℕ → ℕ → List ℕ
  tile from k = stored_tile z pixels bytes held from k

  abbrev tiles : List ℕ → ℕ → List (List ℕ)
  tiles from n = stored_tiles z pixels bytes held from n

  abbrev written : ℕ → List ℕ
  written k = unpacked z.mode z.depth 8 8 (take (z.depth * 8) (drop (k * (z.depth * 8)) bytes))

  pub stored-long : (from : List ℕ) (n : ℕ) → length (tiles from n) ≡ n
  unfolding stored_tiles
  stored-long from zero = refl
  stored-long from (suc n) = omega (arith, length-append (tiles from n) (tile from n ∷ []), stored-long from n)

  pub stored_at : (from : List ℕ) (n k : ℕ) → k < n → get_or (tiles from n) k [] ≡ tile from k
  unfolding stored_tiles
  stored_at from zero k lt = absurd (not-suc-le-zero lt)
  stored_at from (suc n) k lt =
      ⊎_elim
      (λ (q : k ≡ n). ap (λ (i : ℕ). get_or (tiles from n ++ tile from n ∷ []) i []) (q ∙ sym (stored-long from n)) ∙ get_or-append_seam (tiles from n) (tile from n) [] [] ∙ ap (tile from) (sym q))
      (λ (l : k < n). get_or-append (tiles from n) (tile from n ∷ []) [] k (omega (arith, stored-long from n)) ∙ stored_at from n k l)
      (eq-or-lt_of_le (le_of_suc-le-suc lt))

  pub is-written : (from : List ℕ) (k : ℕ) → k < held → tile from k ≡ written k
  unfolding stored_tile
  is-written from k lt = rw (lt-ltb k held lt)

  pub is-taken : (from : List ℕ) (k : ℕ) → held ≤ k → tile from k ≡ tile_at z pixels (get_or from k 0)
  unfolding stored_tile
  is-taken from k le = rw (le-ltb k held le)

  -- ---- those that are written

  pub all-written : (from : List ℕ) (n : ℕ) → n ≤ held → tiles from n ≡ unpacked_tiles z bytes n
  unfolding stored_tiles tiles_in
  all-written from zero le = refl
  all-written from (suc n) le =
      let f = unpacked z.mode z.depth 8 8 in
      let size = z.depth * 8 in
      ap (λ (ts : List (List ℕ)). ts ++ tile from n ∷ []) (all-written from n (omega arith))
      ∙ ap (λ (t : List ℕ). map f (tiles_from size bytes 0 n) ++ t ∷ []) (is-written from n le ∙ ap (λ (k : ℕ). written k) (sym (zero-add n)))
      ∙ sym (map-append f (tiles_from size bytes 0 n) (take size (drop ((0 + n) * size) bytes) ∷ []))
      ∙ ap (map f) (sym (tiles_more size bytes 0 n))

  -- with their index
  pub none-indexed : (from : List ℕ) (x : Index) → IsEmpty x → Indexed z.flip (tiles from 0) x
  unfolding stored_tiles
  none-indexed from x empty = indexed-none z.flip x empty

  pub one_written : (from : List ℕ) (k : ℕ) {t : List ℕ} → k < held → t ≡ written k → tiles from k ++ t ∷ [] ≡ tiles from (k + 1)
  unfolding stored_tiles
  one_written from k lt e = ap (λ (t : List ℕ). tiles from k ++ t ∷ []) (e ∙ sym (is-written from k lt)) ∙ ap (tiles from) (sym (add-one k))

  -- ---- one tile more

  same-before : (from : List ℕ) (n i m : ℕ) → m ≤ n → tiles (set from n i) m ≡ tiles from m
  unfolding stored_tiles stored_tile
  same-before from n i zero le = refl
  same-before from n i (suc m) le = rw (same-before from n i m (omega arith), get_or-set_other from n m i 0 (ne_of_lt le))

  pub stored_next : (from : List ℕ) (n i : ℕ) → held ≤ n → n < length from → tiles (set from n i) (n + 1) ≡ tiles from n ++ tile_at z pixels i ∷ []
  unfolding stored_tiles
  stored_next from n i le lt =
      ap (tiles (set from n i)) (add-one n)
      ∙ ap (λ (ts : List (List ℕ)). ts ++ tile (set from n i) n ∷ []) (same-before from n i n (omega arith))
      ∙ ap (λ (t : List ℕ). tiles from n ++ t ∷ []) (is-taken (set from n i) n le ∙ ap (tile_at z pixels) (get_or-set_same from n i 0 lt))

-- ---- that they are there

module _ {z : Settings} {pixels bytes : List ℕ} {held : ℕ} {from : List ℕ} {count : ℕ} (s : Stored z pixels bytes held from count) where
  pub stored-less : (n : ℕ) → n ≤ count → Stored z pixels bytes held from n
  stored-less n le = record { picture = s.picture; written = s.written; few = omega (arith, s.few); long = s.long; taken = λ k up lt. s.taken k up (omega arith) }

  pub stored_more : {i : ℕ} → i < places z → count < 4096 → Stored z pixels bytes held (set from count i) (count + 1)
  stored_more {i} inside few =
      record {
        picture = s.picture;
        written = s.written;
        few = omega arith;
        long = length-set from count i ∙ s.long;
        taken = λ k up lt.
            ⊎_elim (λ (q : k ≡ count). subst (λ (n : ℕ). n < places z) (sym (ap (λ (j : ℕ). get_or (set from count i) j 0) q ∙ get_or-set_same from count i 0 (omega (arith, s.long)))) inside)
            (λ (l : k < count). subst (λ (n : ℕ). n < places z) (sym (get_or-set_other from count k i 0 (ne_of_lt l))) (s.taken k up l))
            (eq-or-lt_of_le (let q : k ≤ count = omega arith in q));
      }

  pub has-written : (k : ℕ) → k < held → HasWritten z.mode z.depth bytes k
  has-written k lt =
      record {
        mode = s.picture.mode;
        map = s.picture.map;
        depth = s.picture.depth;
        inside = omega (arith, item-inside (z.depth * 8) held k lt, s.written);
      }

-- ---- a search

module _ {s : Source} {t : Store} {tile : List ℕ} {q : ℕ} where
  pub finds-of : HasStored s t t.count → Indexed s.settings.flip (tiles_of s t) t.index → q ≡ key s.settings.flip tile → Finds s t tile q
  finds-of stored index its =
      record {
        stored = stored;
        search = record { few = omega (arith, stored-long s.settings s.pixels.now s.tiles.now t.held t.from t.count, stored.few); index = index; its = its };
      }

  module _ (f : Finds s t tile q) where
    many : length (tiles_of s t) ≡ t.count
    many = stored-long s.settings s.pixels.now s.tiles.now t.held t.from t.count

    pub looks-at : (k : ℕ) → k < t.count → LooksAt s t k tile q
    looks-at k lt =
        record {
          stored = stored-less f.stored (suc k) lt;
          keyed =
              f.search.index.keyed k (omega (arith, many))
              ∙ ap (key s.settings.flip) (stored_at s.settings s.pixels.now s.tiles.now t.held t.from t.count k lt);
          its = f.search.its;
        }

    -- a tile more in the index
    pub more-indexed : {found : Found} {after : Index} {ts : List (List ℕ)} → t.count < 4096 → found ≡ look_up s.settings.flip 8 8 (tiles_of s t) tile
        → Enters t.index t.count q found after → tiles_of s t ++ tile ∷ [] ≡ ts → Indexed s.settings.flip ts after
    more-indexed {after = after} few looked e same =
        subst (λ (ts : List (List ℕ)). Indexed s.settings.flip ts after) same (entered f.search (omega (arith, many)) looked many e)

-- ---- the index of the tiles that are written

module _ {s : Source} {t : Store} (w : IndexesWritten s t) where
  pub index_none : Indexes s t 0 t
  index_none = record { count = w.none; held = refl; from = refl; index = none-indexed s.settings s.pixels.now s.tiles.now t.held t.from t.index w.empty }

  module _ {u : Store} {k : ℕ} (i : Indexes s t k u) (lt : k < t.held) where
    same-tiles : tiles_of s u ≡ first_tiles s t k
    same-tiles = rw (i.held, i.from, i.count)

    pub index-finds : {tile : List ℕ} {q : ℕ} → q ≡ key s.settings.flip tile → Finds s u tile q
    index-finds its =
        let stored : HasStored s u u.count = rw (i.held, i.from, i.count) (stored-less w.stored k (omega arith)) in
        finds-of stored (subst (λ (ts : List (List ℕ)). Indexed s.settings.flip ts u.index) (sym same-tiles) i.index) its

    pub index-more : {tile : List ℕ} {q : ℕ} {found : Found} {after : Index} → q ≡ key s.settings.flip tile
        → tile ≡ unpacked s.settings.mode s.settings.depth 8 8 (take (s.settings.depth * 8) (drop (k * (s.settings.depth * 8)) s.tiles.now))
        → found ≡ look_up s.settings.flip 8 8 (tiles_of s u) tile → Enters u.index k q found after
        → Indexes s t (k + 1) (record { held = u.held; count = k + 1; from = u.from; index = after })
    index-more {tile} {q} {found} {after} its read looked e =
        let enters : Enters u.index u.count q found after = subst (λ (n : ℕ). Enters u.index n q found after) (sym i.count) e in
        record {
          count = refl;
          held = i.held;
          from = i.from;
          index = more-indexed (index-finds its) (omega (arith, i.count, w.stored.few)) looked enters
              (ap (λ (ts : List (List ℕ)). ts ++ tile ∷ []) same-tiles ∙ one_written s.settings s.pixels.now s.tiles.now t.held t.from k lt read);
        }

-- ---- a search among one tile

module _ (on : Bool) (one t : List ℕ) (whole : length one ≡ 64) where
  found-one : look_up on 8 8 (tiles_in 64 one 1) t ≡ found_or (match_flip on 8 8 one t) 0 Nothing
  unfolding look_up tiles_in
  found-one = ap (λ (a : List ℕ). found_or (match_flip on 8 8 a t) 0 Nothing) (take_all 64 one (omega arith))

  pub matched-never : look_up on 8 8 (tiles_in 64 one 1) t ≡ Nothing → None ≡ match_flip on 8 8 one t
  matched-never e = case (match_flip on 8 8 one t) (sym found-one ∙ e)
    where
      case : (m : Option Flip) → found_or m 0 Nothing ≡ Nothing → None ≡ m
      case (Some f) e = not-both (ap is_found (sym e))
      case None e = refl

  pub matched-under : {k : Logical} {f : Flip} → look_up on 8 8 (tiles_in 64 one 1) t ≡ At k f → Some f ≡ match_flip on 8 8 one t
  matched-under {k} {f} e = case (match_flip on 8 8 one t) (sym found-one ∙ e)
    where
      flip_of : Found → Flip
      flip_of (At k g) = g
      flip_of Nothing = f

      case : (m : Option Flip) → found_or m 0 Nothing ≡ At k f → Some f ≡ m
      case (Some g) e = ap Some (sym (ap flip_of e))
      case None e = not-both (sym (ap is_found (sym e)))
