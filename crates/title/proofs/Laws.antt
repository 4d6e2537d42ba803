-- The laws of titles, as a reader wants them.
-- Assumes nothing.
use mathlib.Core.Path.{◌≡◌, refl, ap, ◌∙◌}
use mathlib.Core.Bool.{Bool, true, cond}
use mathlib.Core.List.{List, [], ◌∷◌, ◌++◌, map, append-nil}
use Prim.Native.Nat.{ℕ, zero, suc, ◌+◌, ◌<◌, ◌≤◌}
use native.Mathlib.Omega.{arith}
use lib.ListN.{length, take, drop, length-append, get_or-append}
use Rattle.words.specs.Answers.{unless}
use Rattle.tileset.specs.Sets.{emptied}
use Rattle.tileset.specs.Matched.{Apart}
use Rattle.tileset.specs.Keeping.{keep_all, repeats}
use Rattle.tileset.specs.History.{set_tiles, Call, add_call, reset_call, look_call, set_after, store_after, last_set, last_store, Since, since_start, since_calls, asked}
use Rattle.tileset.specs.declared.Set.{Set}
use Rattle.tileset.specs.declared.Found.{Found}
use Rattle.tileset.proofs.Says.{says}
use Rattle.tileset.proofs.History.{Stands, stands-start, first-tiles, stands-discarded, stands-apart}
use Rattle.tileset.proofs.Laws.{answer-refused, adds-refused}
use Rattle.title.specs.Titles.{common_tiles, title_found, title_says, part_of, held_by, title_held}
use Rattle.title.specs.declared.Held.{Held}
use Rattle.title.specs.History.{Title, TitleCall, own_call, held_call, KeptOwn, Kept, title_number, title_after, last_title, TitleCalls, own_calls}
use Rattle.title.specs.History.{title_asked, own_call_of, title_call_of, title_calls_of}
use Rattle.title.specs.History.{TwinCall, one_calls, other_calls, TwinCalls, last_twins, of_one, of_other}
use Rattle.title.proofs.Says.{titled-of}
use Rattle.title.proofs.LookingLaws.{found_inside, has_part}
use Rattle.title.proofs.History.{after-calls}

-- ---- "the tile's pixels are handed back as a part of whichever of the two lent stores holds it, an empty part if nothing is found"

-- the part that an answer tells
abbrev pub part_told : List ℕ → List ℕ → Held → List ℕ
part_told common store r = take r.len (drop r.at (cond r.common common store))

module _ (z : Set) (count : ℕ) (common store pixels : List ℕ) where
  abbrev number : ℕ
  number = title_says z count (length common) (length store) (length pixels)

  abbrev found : Found
  found = title_found z count common store pixels

  inside-by : (n : ℕ) → number ≡ n → let r = held_by n z count found in r.at + r.len ≤ length (cond r.common common store)
  inside-by zero e =
      let known = titled-of z count common store pixels e in
      (has_part z count common store known.looks.small known.inside known.looks.inside found (found_inside z count common store pixels)).inside
  inside-by (suc n) e = omega arith

  -- it lies in its store, whatever was asked
  pub told-inside : let r = title_held z count common store pixels in r.at + r.len ≤ length (cond r.common common store)
  told-inside = inside-by number refl

  told-by : (n : ℕ) → part_told common store (held_by n z count found) ≡ unless n (part_of z count common store found) []
  unfolding part_of
  told-by zero = refl
  told-by (suc n) = refl

  -- and is the tile that was found; nothing where none was, or where it is refused
  pub told_part : part_told common store (title_held z count common store pixels) ≡ unless number (part_of z count common store found) []
  told_part = told-by number

-- ---- "A refusal returns its number, all else returned 0 or nothing; lent bytes and set state are untouched."

own-refused : (common : List ℕ) (t : Title) (c : Call) → KeptOwn common t c → (title_number (own_call c) ≡ 0 → ⊥)
    → (set_after t.set c ≡ t.set) × (store_after t.store c ≡ t.store)
own-refused common t (add_call p r after) k some = adds-refused k some
own-refused common t (reset_call r) k some = (answer-refused (says t.set) (emptied t.set) t.set k some, refl)
own-refused common t (look_call p r) k some = (refl, refl)

pub title-refused : (common : List ℕ) (t : Title) (c : TitleCall) → Kept common t c → (title_number c ≡ 0 → ⊥) → title_after t c ≡ t
title-refused common t (own_call c) k some =
    let same = own-refused common t c k some in
    λ i. record { count = t.count; set = same.0 i; store = same.1 i }
title-refused common t (held_call p r) k some = refl

-- ---- "The stored and discarded sum of document 01 then speaks of one title's own set and calls, common matches included"

-- tiles of which no two match, without the last of them
apart-front : (on : Bool) (w h : ℕ) (xs ys : List (List ℕ)) → Apart on w h (xs ++ ys) → Apart on w h (xs ++ [])
unfolding Apart
apart-front on w h xs ys apart =
    rw (append-nil xs)
    (λ i j lt inside.
    let here : i < length xs = omega (arith, lt, inside) in
    rw (← get_or-append xs ys [] i here, ← get_or-append xs ys [] j inside) (apart i j lt (omega (arith, inside, length-append xs ys))))

-- first is what is counted by at the start: `since_start` of any set, `since_reset` of a new one, `since_read ..` of one that was read
module _ (common : List ℕ) (t : Title) (first : Since) (from : first ≡ since_start t.set t.store) (cs : List TitleCall) (k : TitleCalls common t cs) where
  abbrev z : Set
  z = t.set

  abbrev since : Since
  since = since_calls z first (own_calls cs)

  abbrev end : Set
  end = last_set z (own_calls cs)

  abbrev seen : List (List ℕ)
  seen = common_tiles z t.count common

  stands : Stands seen z since end (last_store t.store (own_calls cs))
  stands = after-calls t.count common z (rw from (stands-start seen z t.store)) cs k

  pub title-sum : end.stored + end.discarded ≡ since.stored + since.discarded + length since.taken
  title-sum = stands.sum

  -- a tile counts as discarded where it matches a common tile, or one read or accepted earlier; none with discarding off
  pub title-discarded : end.discarded ≡ since.discarded + repeats z.discarding z.flips z.width z.height (seen ++ since.tiles) since.taken
  title-discarded = stands-discarded seen z since stands

  -- the tiles of the title are what is kept of the tiles accepted
  pub title-kept : seen ++ set_tiles end (last_store t.store (own_calls cs))
      ≡ keep_all z.discarding z.flips z.width z.height (seen ++ since.tiles) since.taken
  title-kept = stands.tiles

  -- with discarding on no two tiles of the title match, common or own, where none did at the start, or at the last reset
  pub title-apart : z.discarding ≡ true → Apart z.flips z.width z.height (seen ++ since.tiles)
      → Apart z.flips z.width z.height (seen ++ set_tiles end (last_store t.store (own_calls cs)))
  title-apart = stands-apart seen z since stands

  pub start-apart : Apart z.flips z.width z.height (seen ++ first.tiles) → Apart z.flips z.width z.height (seen ++ since.tiles)
  start-apart apart =
      first-tiles z (λ (l : List (List ℕ)). Apart z.flips z.width z.height (seen ++ l))
      (apart-front z.flips z.width z.height seen first.tiles apart) first (own_calls cs) apart

  -- the title at the end is that set with that store
  ends_by : (u : Title) (ds : List TitleCall) → last_title u ds ≡ record { count = u.count; set = last_set u.set (own_calls ds); store = last_store u.store (own_calls ds) }
  ends_by u [] = refl
  ends_by u (own_call c ∷ ds) = ends_by (title_after u (own_call c)) ds
  ends_by u (held_call p r ∷ ds) = ends_by u ds

  pub title-end : last_title t cs ≡ record { count = t.count; set = end; store = last_store t.store (own_calls cs) }
  title-end = ends_by t cs

-- ---- "What one title is answered depends on the common store, its own set and its own input"

own-only : (common : List ℕ) (t : Title) (c : Call) → KeptOwn common t c → c ≡ own_call_of common t (asked c)
own-only common t (add_call p r after) k = rw (k.answer, k.lent)
own-only common t (reset_call r) k = ap reset_call k
own-only common t (look_call p r) k = ap (look_call p) k

pub title-call-only : (common : List ℕ) (t : Title) (c : TitleCall) → Kept common t c → c ≡ title_call_of common t (title_asked c)
title-call-only common t (own_call c) k = ap own_call (own-only common t c k)
title-call-only common t (held_call p r) k = ap (held_call p) k

pub title-only : (common : List ℕ) (t : Title) (cs : List TitleCall) → TitleCalls common t cs → cs ≡ title_calls_of common t (map title_asked cs)
title-only common t [] k = refl
title-only common t (c ∷ cs) k =
    ap (λ (l : List TitleCall). c ∷ l) (title-only common (title_after t c) cs k.1)
    ∙ ap (λ (x : TitleCall). x ∷ title_calls_of common (title_after t x) (map title_asked cs)) (title-call-only common t c k.0)

-- ---- "and on nothing of the other title's": in any order of two titles' calls, each title's are its own calls by themselves

pub twins-apart : (common : List ℕ) (t u : Title) (cs : List TwinCall) → TwinCalls common t u cs
    → TitleCalls common t (of_one cs) × TitleCalls common u (of_other cs)
twins-apart common t u [] k = (tt, tt)
twins-apart common t u (one_calls c ∷ cs) k =
    let rest = twins-apart common (title_after t c) u cs k.1 in
    ((k.0, rest.0), rest.1)
twins-apart common t u (other_calls c ∷ cs) k =
    let rest = twins-apart common t (title_after u c) cs k.1 in
    (rest.0, (k.0, rest.1))

-- so both are answered what they ask, and keep what their own calls leave
pub twins-answered : (common : List ℕ) (t u : Title) (cs : List TwinCall) → TwinCalls common t u cs
    → (of_one cs ≡ title_calls_of common t (map title_asked (of_one cs))) × (of_other cs ≡ title_calls_of common u (map title_asked (of_other cs)))
twins-answered common t u cs k =
    let apart = twins-apart common t u cs k in
    (title-only common t (of_one cs) apart.0, title-only common u (of_other cs) apart.1)

pub twins-end : (t u : Title) (cs : List TwinCall) → last_twins t u cs ≡ (last_title t (of_one cs), last_title u (of_other cs))
twins-end t u [] = refl
twins-end t u (one_calls c ∷ cs) = twins-end (title_after t c) u cs
twins-end t u (other_calls c ∷ cs) = twins-end t (title_after u c) cs
