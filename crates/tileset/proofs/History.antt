-- Over any calls on a set, what it stores is what is kept of the tiles accepted, and its counts are theirs.
-- Assumes nothing.
use mathlib.Core.Path.{◌≡◌, refl, sym, ap, ◌∙◌}
use mathlib.Core.Bool.{Bool, true, false, cond}
use mathlib.Core.List.{List, [], ◌∷◌, ◌++◌, map, append_assoc}
use Prim.Native.Nat.{ℕ, zero, suc, ◌+◌, ◌<◌, ◌≤◌}
use native.Mathlib.Nat.{mul-pos, not-suc-le-zero}
use native.Mathlib.Omega.{arith}
use lib.ListN.{length, length-append}
use lib.Seq.{length-sets}
use borrow.Author.Tests.{leb-false}
use Rattle.words.specs.Answers.{unless}
use Rattle.words.proofs.Answers.{not-given}
use Rattle.tileset.specs.Sets.{area, room_in, look_says, with_counts, emptied}
use Rattle.tileset.specs.Finding.{cut_to, tiles_in, look_up, found_in}
use Rattle.tileset.specs.Adding.{discards, no_room, one_stored, one_discarded, at_end, add_says, added, store_with}
use Rattle.tileset.specs.Matched.{Apart}
use Rattle.tileset.specs.Keeping.{keep, keep_all, repeats}
use Rattle.tileset.specs.History.{set_tiles, Call, add_call, reset_call, look_call, Promised, set_after, store_after, last_set, last_store, Calls}
use Rattle.tileset.specs.History.{Since, since_reset, since_start, taking, since_call, since_calls}
use Rattle.tileset.specs.History.{Ask, to_add, to_reset, to_look, call_of, calls_of, adds_of, set_at_end, store_at_end, accepted}
use Rattle.tileset.specs.Inner.{Looks}
use Rattle.tileset.specs.declared.Set.{Set}
use Rattle.tileset.specs.declared.Found.{Found}
use Rattle.tileset.proofs.Says.{says, room-left, looks-of}
use Rattle.tileset.proofs.Stores.{length_cut, length-tiles, tiles-put}
use Rattle.tileset.proofs.AddingLaws.{add-looks, add-says, added_is, with-is}
use Rattle.tileset.proofs.Keeping.{keep_append, kept-count, all_apart}

pub count-tiles : (z : Set) (s : List ℕ) → length (set_tiles z s) ≡ z.stored
unfolding tiles_in
count-tiles z s = length-tiles (area z) s 0 z.stored

-- ---- an add that is answered 0, where some tiles were seen before those of the set: none, or a title's common ones

-- the set and the store that it leaves
pub record Grown (seen : List (List ℕ)) (z : Set) (s p : List ℕ) (next : Set) (store : List ℕ) : Type 0 where
  pub same : next ≡ with_counts z next.stored next.discarded
  pub tiles : seen ++ set_tiles next store ≡ keep z.discarding z.flips z.width z.height (seen ++ set_tiles z s) (cut_to z.depth p)
  pub sum : next.stored + next.discarded ≡ z.stored + z.discarded + 1
  pub few : next.discarded ≤ z.discarded + 1
  pub long : length store ≡ length s

module _ (seen : List (List ℕ)) (z : Set) (s p : List ℕ) where
  abbrev all : List (List ℕ)
  all = seen ++ set_tiles z s

  abbrev tile : List ℕ
  tile = cut_to z.depth p

  -- what is found among them
  abbrev found : Found
  found = look_up z.flips z.width z.height all tile

  keep-by : (d : Bool) → discards z found ≡ d → keep z.discarding z.flips z.width z.height all tile ≡ cond d all (all ++ tile ∷ [])
  unfolding keep
  keep-by d e = ap (λ (b : Bool). cond b all (all ++ tile ∷ [])) e

  -- a tile that is stored has room
  pub grown-by : Looks z s p → (d : Bool) → discards z found ≡ d → (d ≡ false → z.stored < room_in z (length s))
      → Grown seen z s p (cond d (one_discarded z) (one_stored z)) (cond d s (at_end z s p))
  grown-by known true e room = record { same = refl; tiles = sym (keep-by true e); sum = omega arith; few = omega arith; long = refl }
  grown-by known false e room =
      record {
        same = refl;
        tiles =
            ap (λ (l : List (List ℕ)). seen ++ l)
            (tiles-put (area z) s tile z.stored
            (room-left z.limit (length s) (area z) z.stored (mul-pos known.some known.tall) (room refl)) (length_cut z.depth p ∙ known.whole))
            ∙ sym (append_assoc seen (set_tiles z s) (tile ∷ []))
            ∙ sym (keep-by false e);
        sum = omega arith;
        few = omega arith;
        long = length-sets s _ tile;
      }

module _ (z : Set) (s p : List ℕ) where
  pub keep-is : keep z.discarding z.flips z.width z.height (set_tiles z s) (cut_to z.depth p)
      ≡ cond (discards z (found_in z s p)) (set_tiles z s) (set_tiles z s ++ cut_to z.depth p ∷ [])
  unfolding keep found_in
  keep-is = refl

  module _ (done : add_says z s p ≡ 0) where
    fine : look_says z (length s) (length p) ≡ 0
    fine = add-looks z s p done

    pub known : Looks z s p
    known = looks-of z s p fine

    has_room : (d : Bool) → discards z (found_in z s p) ≡ d → d ≡ false → z.stored < room_in z (length s)
    has_room d e off =
        leb-false (room_in z (length s)) z.stored
        (not-given 11 (no_room z (room_in z (length s))) (sym (add-says z s p false (e ∙ off) fine) ∙ done))

    pub grown : Grown [] z s p (added z s p) (store_with z s p)
    unfolding found_in
    grown =
        let d = discards z (found_in z s p) in
        rw (added_is z s p d refl, with-is z s p d refl) (grown-by [] z s p known d refl (has_room d refl))

-- ---- any calls

-- how a set with the settings of z, and its store, stand to what is counted
pub record Stands (seen : List (List ℕ)) (z : Set) (t : Since) (x : Set) (s : List ℕ) : Type 0 where
  pub same : x ≡ with_counts z x.stored x.discarded
  pub tiles : seen ++ set_tiles x s ≡ keep_all z.discarding z.flips z.width z.height (seen ++ t.tiles) t.taken
  pub count : length t.tiles ≡ t.stored
  pub sum : x.stored + x.discarded ≡ t.stored + t.discarded + length t.taken
  pub wide : 0 < length t.taken → 0 < z.width

pub stands-start : (seen : List (List ℕ)) (z : Set) (s : List ℕ) → Stands seen z (since_start z s) z s
stands-start seen z s =
    record { same = refl; tiles = refl; count = count-tiles z s; sum = omega arith; wide = λ lt. absurd (not-suc-le-zero lt) }

-- what holds of both holds of the one
either-one : {A : Type 0} (P : A → Type 0) (n : ℕ) (a b : A) → P a → P b → P (unless n a b)
either-one P zero a b p q = p
either-one P (suc n) a b p q = q

module _ (seen : List (List ℕ)) (z : Set) where
  -- one more tile
  pub stands-taken : {t : Since} {x : Set} {s p : List ℕ} {next : Set} {store : List ℕ} → Stands seen z t x s → 0 < x.width → Grown seen x s p next store
      → Stands seen z (taking t (cut_to z.depth p ∷ [])) next store
  stands-taken {t} {x} {s} {p} {next} {store} st wide g =
      let tile = cut_to z.depth p in
      record {
        same = g.same ∙ ap (λ (y : Set). with_counts y next.stored next.discarded) st.same;
        tiles =
            g.tiles
            ∙ ap (λ (y : Set). keep y.discarding y.flips y.width y.height (seen ++ set_tiles x s) (cut_to y.depth p)) st.same
            ∙ ap (λ (l : List (List ℕ)). keep z.discarding z.flips z.width z.height l tile) st.tiles
            ∙ sym (keep_append z.discarding z.flips z.width z.height (seen ++ t.tiles) t.taken (tile ∷ []));
        count = st.count;
        sum = omega (arith, g.sum, st.sum, length-append t.taken (tile ∷ []));
        wide = λ lt. omega (arith, wide, ap (λ (y : Set). y.width) st.same);
      }

  pub after-reset : {t : Since} {x : Set} {s : List ℕ} → Stands seen z t x s → (n : ℕ) → Stands seen z (unless n since_reset t) (unless n (emptied x) x) s
  unfolding tiles_in
  after-reset st zero =
      record { same = ap (λ (y : Set). with_counts y 0 0) st.same; tiles = refl; count = refl; sum = refl; wide = λ lt. absurd (not-suc-le-zero lt) }
  after-reset st (suc n) = st

module _ (z : Set) where
  after-add : {t : Since} {x : Set} {s : List ℕ} → Stands [] z t x s → (p : List ℕ) (n : ℕ) → add_says x s p ≡ n
      → Stands [] z (unless n (taking t (cut_to z.depth p ∷ [])) t) (unless n (added x s p) x) (unless n (store_with x s p) s)
  after-add {x = x} {s} st p zero e = stands-taken [] z st (known x s p e).some (grown x s p e)
  after-add st p (suc n) e = st

  after_call : {t : Since} {x : Set} {s : List ℕ} → Stands [] z t x s → (c : Call) → Promised x s c → Stands [] z (since_call z t c) (set_after x c) (store_after s c)
  after_call {x = x} {s} st (add_call p r after) k = rw (k.answer, k.lent) (after-add st p (add_says x s p) refl)
  after_call {x = x} st (reset_call r) k = rw k (after-reset [] z st (says x))
  after_call st (look_call p r) k = st

  -- the one induction
  pub after-calls : {t : Since} {x : Set} {s : List ℕ} → Stands [] z t x s → (cs : List Call) → Calls x s cs → Stands [] z (since_calls z t cs) (last_set x cs) (last_store s cs)
  after-calls st [] k = st
  after-calls {t = t} {x = x} {s = s} st (c ∷ cs) k =
      after-calls {t = since_call z t c} {x = set_after x c} {s = store_after s c} (after_call st c k.0) cs k.1

  -- the tiles at the start are still those, or none after a reset
  one-first : (P : List (List ℕ) → Type 0) → P [] → (t : Since) (c : Call) → P t.tiles → P (since_call z t c).tiles
  one-first P none t (add_call p r after) here = either-one (λ (x : Since). P x.tiles) r.refusal (taking t (cut_to z.depth p ∷ [])) t here here
  one-first P none t (reset_call r) here = either-one (λ (x : Since). P x.tiles) r.refusal since_reset t none here
  one-first P none t (look_call p r) here = here

  pub first-tiles : (P : List (List ℕ) → Type 0) → P [] → (t : Since) (cs : List Call) → P t.tiles → P (since_calls z t cs).tiles
  first-tiles P none t [] here = here
  first-tiles P none t (c ∷ cs) here = first-tiles P none (since_call z t c) cs (one-first P none t c here)

-- ---- what a caller sees

module _ (seen : List (List ℕ)) (z : Set) (t : Since) {x : Set} {s : List ℕ} (st : Stands seen z t x s) where
  pub stands-discarded : x.discarded ≡ t.discarded + repeats z.discarding z.flips z.width z.height (seen ++ t.tiles) t.taken
  stands-discarded =
      omega (
        arith,
        st.sum,
        st.count,
        count-tiles x s,
        length-append seen (set_tiles x s),
        length-append seen t.tiles,
        ap (λ (l : List (List ℕ)). length l) st.tiles,
        kept-count z.flips z.width z.height z.discarding (seen ++ t.tiles) t.taken st.wide,
      )

  pub stands-apart : z.discarding ≡ true → Apart z.flips z.width z.height (seen ++ t.tiles)
      → Apart z.flips z.width z.height (seen ++ set_tiles x s)
  stands-apart on apart = rw (st.tiles, on) (all_apart z.flips z.width z.height (seen ++ t.tiles) t.taken apart)

-- ---- the calls as they are promised

pub call-promised : (z : Set) (s : List ℕ) (a : Ask) → Promised z s (call_of z s a)
call-promised z s (to_add p) = record { answer = refl; lent = refl }
call-promised z s to_reset = refl
call-promised z s (to_look p) = refl

pub calls-promised : (z : Set) (s : List ℕ) (asks : List Ask) → Calls z s (calls_of z s asks)
calls-promised z s [] = tt
calls-promised z s (a ∷ rest) = (call-promised z s a, calls-promised (set_after z (call_of z s a)) (store_after s (call_of z s a)) rest)

-- adds alone
abbrev start_sum : Since → ℕ
start_sum t = t.stored + t.discarded

adds-start : (x : Set) (t : Since) (z : Set) (s : List ℕ) (ps : List (List ℕ)) → start_sum (since_calls x t (adds_of z s ps)) ≡ start_sum t
adds-start x t z s [] = refl
adds-start x t z s (p ∷ ps) =
    let c = call_of z s (to_add p) in
    adds-start x (since_call x t c) (set_after z c) (store_after s c) ps
    ∙ either-one (λ (y : Since). start_sum y ≡ start_sum t) (add_says z s p) (taking t (cut_to x.depth p ∷ [])) t refl refl

pub adds-stand : (z : Set) (s : List ℕ) (ps : List (List ℕ)) → Stands [] z (since_calls z (since_start z s) (adds_of z s ps)) (set_at_end z s ps) (store_at_end z s ps)
adds-stand z s ps = after-calls z (stands-start [] z s) (adds_of z s ps) (calls-promised z s (map to_add ps))

pub adds-sum : (z : Set) (s : List ℕ) (ps : List (List ℕ)) → (set_at_end z s ps).stored + (set_at_end z s ps).discarded ≡ z.stored + z.discarded + accepted z s ps
adds-sum z s ps = omega (arith, (adds-stand z s ps).sum, adds-start z (since_start z s) z s ps)
