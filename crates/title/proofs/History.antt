-- Over any calls on a title, what it stores is what is kept of the tiles accepted after the common ones, and its counts are theirs.
-- Assumes nothing.
use mathlib.Core.Path.{◌≡◌, refl, ap}
use mathlib.Core.List.{List, [], ◌∷◌}
use Prim.Native.Nat.{ℕ, zero, suc}
use Rattle.words.specs.Answers.{unless}
use Rattle.tileset.specs.Sets.{area, with_counts}
use Rattle.tileset.specs.Finding.{cut_to, tiles_in}
use Rattle.tileset.specs.Adding.{discards, added_by, store_by}
use Rattle.tileset.specs.History.{Call, add_call, reset_call, look_call, set_after, store_after, last_set, last_store, Since, taking, since_call, since_calls}
use Rattle.tileset.specs.declared.Set.{Set}
use Rattle.tileset.proofs.Says.{says}
use Rattle.tileset.proofs.History.{Grown, grown-by, Stands, stands-taken, after-reset}
use Rattle.title.specs.Titles.{common_tiles, title_found, title_add_says}
use Rattle.title.specs.History.{TitleCall, own_call, held_call, KeptOwn, TitleCalls, own_calls}
use Rattle.title.specs.Inner.{Titled}
use Rattle.title.proofs.Says.{titled-of}
use Rattle.title.proofs.AddingLaws.{add-titled, add-room}

module _ (count : ℕ) (common : List ℕ) where
  -- an add that is answered 0
  module _ (z : Set) (s p : List ℕ) (done : title_add_says z count common s p ≡ 0) where
    pub known : Titled z count common s p
    known = titled-of z count common s p (add-titled z count common s p done)

    pub grown : Grown (common_tiles z count common) z s p (added_by z (title_found z count common s p)) (store_by z (title_found z count common s p) s p)
    unfolding title_found
    grown =
        grown-by (common_tiles z count common) z s p known.looks (discards z (title_found z count common s p)) refl
        (λ off. add-room z count common s p done off)

  -- a title with the settings of z
  module _ (z : Set) where
    abbrev seen : List (List ℕ)
    seen = common_tiles z count common

    -- the common tiles are those of any set with these settings
    alike : {x : Set} → x ≡ with_counts z x.stored x.discarded → common_tiles x count common ≡ seen
    alike e = ap (λ (y : Set). tiles_in (area y) common count) e

    after-add : {t : Since} {x : Set} {s : List ℕ} → Stands seen z t x s → (p : List ℕ) (n : ℕ) → title_add_says x count common s p ≡ n
        → Stands seen z (unless n (taking t (cut_to z.depth p ∷ [])) t) (unless n (added_by x (title_found x count common s p)) x)
        (unless n (store_by x (title_found x count common s p) s p) s)
    after-add {x = x} {s} st p zero e =
        stands-taken seen z st (known x s p e).looks.some
        (rw (← alike st.same) (grown x s p e))
    after-add st p (suc n) e = st

    after-own : {t : Since} {x : Set} {s : List ℕ} → Stands seen z t x s → (c : Call) → KeptOwn common (record { count = count; set = x; store = s }) c
        → Stands seen z (since_call z t c) (set_after x c) (store_after s c)
    after-own {x = x} {s} st (add_call p r after) k = rw (k.answer, k.lent) (after-add st p (title_add_says x count common s p) refl)
    after-own {x = x} st (reset_call r) k = rw k (after-reset seen z st (says x))
    after-own st (look_call p r) k = st

    -- the one induction
    pub after-calls : {t : Since} {x : Set} {s : List ℕ} → Stands seen z t x s → (cs : List TitleCall)
        → TitleCalls common (record { count = count; set = x; store = s }) cs
        → Stands seen z (since_calls z t (own_calls cs)) (last_set x (own_calls cs)) (last_store s (own_calls cs))
    after-calls st [] k = st
    after-calls {t = t} {x = x} {s = s} st (own_call c ∷ cs) k =
        after-calls {t = since_call z t c} {x = set_after x c} {s = store_after s c} (after-own st c k.0) cs k.1
    after-calls {t = t} {x = x} {s = s} st (held_call p r ∷ cs) k = after-calls {t = t} {x = x} {s = s} st cs k.1
