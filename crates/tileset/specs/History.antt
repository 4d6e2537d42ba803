-- "Over any adds since the last reset, store, state and settings else unchanged: stored + discarded = adds answered 0, and discarded is the number
-- of those whose tile matched one read or accepted earlier (0 with discarding off)": what a caller counts by, over calls as it sees them.
-- Assumes nothing.
use Rattle.std.specs.Prelude.{◌≡◌, List, [], ◌∷◌, ◌++◌, map, ℕ, zero, suc, length}
use Rattle.words.specs.Answers.{unless}
use Rattle.tileset.specs.Sets.{area, set_says, look_says, emptied, answered_set}
use Rattle.tileset.specs.Finding.{cut_to, tiles_in, found_in, placed}
use Rattle.tileset.specs.Adding.{add_says, added, store_with, AddsTile}
use Rattle.tileset.specs.Reading.{read_count, tile_in}
use Rattle.tileset.specs.declared.Set.{Set}
use Rattle.tileset.specs.declared.SetAnswer.{SetAnswer}
use Rattle.tileset.specs.declared.Place.{Place}

-- The tiles of a set.
abbrev pub set_tiles : Set → List ℕ → List (List ℕ)
set_tiles z store = tiles_in (area z) store z.stored

-- A call on a set and its store: an add, with its pixels, its answer and the store it left; a reset, with its answer; a look-up, with its pixels
-- and its answer.
pub data Call : Type 0 where
  add_call : List ℕ → SetAnswer → List ℕ → Call
  reset_call : SetAnswer → Call
  look_call : List ℕ → Place → Call

-- It kept its promise, with the set and the store that it was given.
abbrev pub Promised : Set → List ℕ → Call → Type 0
Promised z store (add_call p r after) = AddsTile z store p r after
Promised z store (reset_call r) = r ≡ answered_set (set_says z.mode z.depth z.width z.height) (emptied z) z
Promised z store (look_call p r) = r ≡ placed (look_says z (length store) (length p)) (found_in z store p)

-- Its number, and the set and the store that the caller has after it, and after some.
abbrev pub call_number : Call → ℕ
call_number (add_call p r after) = r.refusal
call_number (reset_call r) = r.refusal
call_number (look_call p r) = r.refusal

abbrev pub set_after : Set → Call → Set
set_after z (add_call p r after) = r.set
set_after z (reset_call r) = r.set
set_after z (look_call p r) = z

abbrev pub store_after : List ℕ → Call → List ℕ
store_after store (add_call p r after) = after
store_after store (reset_call r) = store
store_after store (look_call p r) = store

abbrev pub last_set : Set → List Call → Set
last_set z [] = z
last_set z (c ∷ cs) = last_set (set_after z c) cs

abbrev pub last_store : List ℕ → List Call → List ℕ
last_store store [] = store
last_store store (c ∷ cs) = last_store (store_after store c) cs

-- Each of some calls, refused ones too, kept its promise, with what those before it left.
abbrev pub Calls : Set → List ℕ → List Call → Type 0
Calls z store [] = Unit {0}
Calls z store (c ∷ cs) = Promised z store c × Calls (set_after z c) (store_after store c) cs

-- What the caller counts by, since the last reset answered 0, or else since the start: the two counts and the tiles there were then, and the tiles
-- accepted, cut.
pub record Since : Type 0 where
  pub stored : ℕ
  pub discarded : ℕ
  pub tiles : List (List ℕ)
  pub taken : List (List ℕ)

abbrev pub since_reset : Since
since_reset = record { stored = 0; discarded = 0; tiles = []; taken = [] }

abbrev pub since_start : Set → List ℕ → Since
since_start z store = record { stored = z.stored; discarded = z.discarded; tiles = set_tiles z store; taken = [] }

-- "its sum starts from the count read": a set that was read starts with the tiles read.
abbrev pub tiles_read : ℕ → ℕ → ℕ → ℕ → List ℕ → ℕ → List (List ℕ)
tiles_read m d w h bytes zero = []
tiles_read m d w h bytes (suc n) = tiles_read m d w h bytes n ++ tile_in m d w h bytes n ∷ []

abbrev pub since_read : ℕ → ℕ → ℕ → ℕ → List ℕ → Since
since_read m d w h bytes =
    let count = read_count m d w h (length bytes) in
    record { stored = count; discarded = 0; tiles = tiles_read m d w h bytes count; taken = [] }

abbrev pub taking : Since → List (List ℕ) → Since
taking t tiles = record { stored = t.stored; discarded = t.discarded; tiles = t.tiles; taken = t.taken ++ tiles }

abbrev pub since_call : Set → Since → Call → Since
since_call z t (add_call p r after) = unless r.refusal (taking t (cut_to z.depth p ∷ [])) t
since_call z t (reset_call r) = unless r.refusal since_reset t
since_call z t (look_call p r) = t

abbrev pub since_calls : Set → Since → List Call → Since
since_calls z t [] = t
since_calls z t (c ∷ cs) = since_calls z (since_call z t c) cs

-- What a call asks, and the one call that answers it as promised; and some.
pub data Ask : Type 0 where
  to_add : List ℕ → Ask
  to_reset : Ask
  to_look : List ℕ → Ask

abbrev pub asked : Call → Ask
asked (add_call p r after) = to_add p
asked (reset_call r) = to_reset
asked (look_call p r) = to_look p

abbrev pub call_of : Set → List ℕ → Ask → Call
call_of z store (to_add p) =
    add_call p (answered_set (add_says z store p) (added z store p) z) (unless (add_says z store p) (store_with z store p) store)
call_of z store to_reset = reset_call (answered_set (set_says z.mode z.depth z.width z.height) (emptied z) z)
call_of z store (to_look p) = look_call p (placed (look_says z (length store) (length p)) (found_in z store p))

abbrev pub calls_of : Set → List ℕ → List Ask → List Call
calls_of z store [] = []
calls_of z store (a ∷ rest) = call_of z store a ∷ calls_of (set_after z (call_of z store a)) (store_after store (call_of z store a)) rest

-- Some tiles added one after the other: the set and the store after them, and how many adds are answered 0.
abbrev pub adds_of : Set → List ℕ → List (List ℕ) → List Call
adds_of z store ps = calls_of z store (map to_add ps)

abbrev pub set_at_end : Set → List ℕ → List (List ℕ) → Set
set_at_end z store ps = last_set z (adds_of z store ps)

abbrev pub store_at_end : Set → List ℕ → List (List ℕ) → List ℕ
store_at_end z store ps = last_store store (adds_of z store ps)

abbrev pub accepted : Set → List ℕ → List (List ℕ) → ℕ
accepted z store ps = length (since_calls z (since_start z store) (adds_of z store ps)).taken
