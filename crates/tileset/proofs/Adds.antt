-- Some tiles added one after the other to a set with room for them are all accepted, and the set has what is kept of them.
-- Assumes nothing.
use mathlib.Core.Path.{◌≡◌, refl, sym, ap, ◌∙◌, subst}
use mathlib.Core.Bool.{Bool, true, false, cond}
use mathlib.Core.List.{List, [], ◌∷◌, ◌++◌, map, append-nil, append_assoc}
use Prim.Native.Nat.{ℕ, suc, ◌+◌, ◌≤◌}
use native.Mathlib.Nat.{le_trans}
use native.Mathlib.Omega.{arith}
use lib.ListN.{length, length-append, length-map}
use borrow.Author.Tests.{lt-leb, ne_eqb}
use Rattle.words.specs.Answers.{◌when◌}
use Rattle.tileset.specs.Sets.{area, room_in, set_says, look_says, with_counts}
use Rattle.tileset.specs.Finding.{cut_to, found_in}
use Rattle.tileset.specs.Adding.{discards, add_says, added, store_with}
use Rattle.tileset.specs.Keeping.{keep, keep_all}
use Rattle.tileset.specs.History.{set_tiles, Since, since_start, taking, since_calls, adds_of, set_at_end, store_at_end, accepted}
use Rattle.tileset.specs.declared.Set.{Set}
use Rattle.tileset.proofs.Says.{held-0, look-0}
use Rattle.tileset.proofs.AddingLaws.{add-says}
use Rattle.tileset.proofs.Keeping.{Every, keep-grows, all-grow}
use Rattle.tileset.proofs.History.{count-tiles, Grown, keep-is, grown, adds-stand}

-- what is kept of some tiles after those of a set
abbrev pub kept_after : Set → List ℕ → List (List ℕ) → List (List ℕ)
kept_after z s ps = keep_all z.discarding z.flips z.width z.height (set_tiles z s) (map (cut_to z.depth) ps)

-- a set that has room for all of them
pub record Roomy (z : Set) (s : List ℕ) (ps : List (List ℕ)) : Type 0 where
  pub says : set_says z.mode z.depth z.width z.height ≡ 0
  pub sizes : Every (λ p. length p ≡ area z) ps
  pub room : length (kept_after z s ps) ≤ room_in z (length s)
  pub few : z.discarded + length ps ≤ 4294967295

module _ (z : Set) (s p : List ℕ) (ps : List (List ℕ)) (roomy : Roomy z s (p ∷ ps)) where
  abbrev tile : List ℕ
  tile = cut_to z.depth p

  -- after the tile
  abbrev more : List (List ℕ)
  more = keep z.discarding z.flips z.width z.height (set_tiles z s) tile

  more_room : length more ≤ room_in z (length s)
  more_room = le_trans (all-grow z.discarding z.flips z.width z.height more (map (cut_to z.depth) ps)) roomy.room

  fine : look_says z (length s) (length p) ≡ 0
  fine =
      let held = le_trans (keep-grows z.discarding z.flips z.width z.height (set_tiles z s) tile) more_room in
      sym (look-0 z (length s) (length p) (sym (held-0 z (length s) roomy.says (omega (arith, count-tiles z s, held)))) (roomy.sizes 0 (omega arith)))

  done-by : (d : Bool) → discards z (found_in z s p) ≡ d → add_says z s p ≡ 0
  done-by true e = add-says z s p true e fine ∙ ap (λ (b : Bool). 13 when b) (ne_eqb z.discarded 4294967295 (λ q. omega (arith, roomy.few)))
  done-by false e =
      let longer : length more ≡ length (set_tiles z s ++ tile ∷ []) =
      ap (λ (l : List (List ℕ)). length l) (keep-is z s p ∙ ap (λ (b : Bool). cond b (set_tiles z s) (set_tiles z s ++ tile ∷ [])) e) in
      add-says z s p false e fine
      ∙ ap (λ (b : Bool). 12 when b) (lt-leb (room_in z (length s)) z.stored (omega (arith, length-append (set_tiles z s) (tile ∷ []), count-tiles z s, more_room)))

  done : add_says z s p ≡ 0
  done = done-by (discards z (found_in z s p)) refl

  -- the set that an add leaves has room for the others
  others : {next : Set} {store : List ℕ} → Grown [] z s p next store → Roomy next store ps
  others {next} {store} g =
      let now = with_counts z next.stored next.discarded in
      let same : kept_after now store ps ≡ kept_after z s (p ∷ ps) =
      ap (λ (l : List (List ℕ)). keep_all z.discarding z.flips z.width z.height l (map (cut_to z.depth) ps))
      (ap (λ (x : Set). set_tiles x store) (sym g.same) ∙ g.tiles) in
      subst (λ (x : Set). Roomy x store ps) (sym g.same)
      (record {
        says = roomy.says;
        sizes = λ i lt. roomy.sizes (suc i) (omega arith);
        room = rw (same, g.long) roomy.room;
        few = omega (arith, roomy.few, g.few);
      })

-- each is taken
all-taken : (x : Set) (t : Since) (z : Set) (s : List ℕ) (ps : List (List ℕ)) → Roomy z s ps → since_calls x t (adds_of z s ps) ≡ taking t (map (cut_to x.depth) ps)
all-taken x t z s [] roomy = rw append-nil
all-taken x t z s (p ∷ ps) roomy =
    let e = done z s p ps roomy in
    let tile = cut_to x.depth p in
    rw (e, ← append_assoc t.taken (tile ∷ []) (map (cut_to x.depth) ps))
    (all-taken x (taking t (tile ∷ [])) (added z s p) (store_with z s p) ps (others z s p ps roomy (grown z s p e)))

-- every add is answered 0, and the set has what is kept of the tiles
pub all-added : (z : Set) (s : List ℕ) (ps : List (List ℕ)) → Roomy z s ps
    → (accepted z s ps ≡ length ps) × (set_tiles (set_at_end z s ps) (store_at_end z s ps) ≡ kept_after z s ps)
all-added z s ps roomy =
    let all = all-taken z (since_start z s) z s ps roomy in (
      ap (λ (t : Since). length t.taken) all ∙ length-map ps (cut_to z.depth),
      (adds-stand z s ps).tiles
          ∙ ap (λ (t : Since). keep_all z.discarding z.flips z.width z.height t.tiles t.taken) all,
    )
