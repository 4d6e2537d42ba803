-- "The stored and discarded sum of document 01 then speaks of one title's own set and calls, common matches included": the calls of a title as its
-- caller sees them. "What one title is answered depends on the common store, its own set and its own input, and on nothing of the other title's": the
-- calls of two titles over one common store, in any order.
-- Assumes nothing.
use Rattle.std.specs.Prelude.{◌≡◌, List, [], ◌∷◌, ℕ}
use Rattle.words.specs.Answers.{unless}
use Rattle.tileset.specs.Sets.{answered_set}
use Rattle.tileset.specs.Adding.{added_by, store_by}
use Rattle.tileset.specs.History.{Call, add_call, reset_call, look_call, Promised, call_number, set_after, store_after, Ask, to_add, to_reset, to_look, asked, call_of}
use Rattle.tileset.specs.declared.Set.{Set}
use Rattle.title.specs.Titles.{title_found, title_add_says, title_held, AddsToTitle}
use Rattle.title.specs.declared.Held.{Held}

-- What a caller keeps of a title: how many tiles of the common store are its, its own set, and that set's store.
pub record Title : Type 0 where
  pub count : ℕ
  pub set : Set
  pub store : List ℕ

-- A call of a title: one that a set has too, or a look-up in both stores, with its pixels and its answer.
pub data TitleCall : Type 0 where
  own_call : Call → TitleCall
  held_call : List ℕ → Held → TitleCall

-- It kept its promise, with the common store and the title that it was given. An add is the title's; resetting and looking up in the own store alone
-- are the set's.
abbrev pub KeptOwn : List ℕ → Title → Call → Type 0
KeptOwn common t (add_call p r after) = AddsToTitle t.set t.count common t.store p r after
KeptOwn common t (reset_call r) = Promised t.set t.store (reset_call r)
KeptOwn common t (look_call p r) = Promised t.set t.store (look_call p r)

abbrev pub Kept : List ℕ → Title → TitleCall → Type 0
Kept common t (own_call c) = KeptOwn common t c
Kept common t (held_call p r) = r ≡ title_held t.set t.count common t.store p

-- Its number, and the title that the caller has after it, and after some.
abbrev pub title_number : TitleCall → ℕ
title_number (own_call c) = call_number c
title_number (held_call p r) = r.refusal

abbrev pub title_after : Title → TitleCall → Title
title_after t (own_call c) = record { count = t.count; set = set_after t.set c; store = store_after t.store c }
title_after t (held_call p r) = t

abbrev pub last_title : Title → List TitleCall → Title
last_title t [] = t
last_title t (c ∷ cs) = last_title (title_after t c) cs

-- Each of some calls, refused ones too, kept its promise, with what those before it left.
abbrev pub TitleCalls : List ℕ → Title → List TitleCall → Type 0
TitleCalls common t [] = Unit {0}
TitleCalls common t (c ∷ cs) = Kept common t c × TitleCalls common (title_after t c) cs

-- Those that a set has too: by them the sum is counted, as for a set.
abbrev pub own_calls : List TitleCall → List Call
own_calls [] = []
own_calls (own_call c ∷ cs) = c ∷ own_calls cs
own_calls (held_call p r ∷ cs) = own_calls cs

-- ---- what a title's calls ask, and the one call that answers it as promised; and some

pub data TitleAsk : Type 0 where
  own_ask : Ask → TitleAsk
  to_hold : List ℕ → TitleAsk

abbrev pub title_asked : TitleCall → TitleAsk
title_asked (own_call c) = own_ask (asked c)
title_asked (held_call p r) = to_hold p

abbrev pub own_call_of : List ℕ → Title → Ask → Call
own_call_of common t (to_add p) =
    let found = title_found t.set t.count common t.store p in
    let number = title_add_says t.set t.count common t.store p in
    add_call p (answered_set number (added_by t.set found) t.set) (unless number (store_by t.set found t.store p) t.store)
own_call_of common t to_reset = call_of t.set t.store to_reset
own_call_of common t (to_look p) = call_of t.set t.store (to_look p)

abbrev pub title_call_of : List ℕ → Title → TitleAsk → TitleCall
title_call_of common t (own_ask a) = own_call (own_call_of common t a)
title_call_of common t (to_hold p) = held_call p (title_held t.set t.count common t.store p)

abbrev pub title_calls_of : List ℕ → Title → List TitleAsk → List TitleCall
title_calls_of common t [] = []
title_calls_of common t (a ∷ rest) = title_call_of common t a ∷ title_calls_of common (title_after t (title_call_of common t a)) rest

-- ---- two titles over one common store: a call of the one or of the other

pub data TwinCall : Type 0 where
  one_calls : TitleCall → TwinCall
  other_calls : TitleCall → TwinCall

-- Each kept its promise, with the common store and what the calls before it left of its own title.
abbrev pub TwinCalls : List ℕ → Title → Title → List TwinCall → Type 0
TwinCalls common t u [] = Unit {0}
TwinCalls common t u (one_calls c ∷ cs) = Kept common t c × TwinCalls common (title_after t c) u cs
TwinCalls common t u (other_calls c ∷ cs) = Kept common u c × TwinCalls common t (title_after u c) cs

-- The two titles after them.
abbrev pub last_twins : Title → Title → List TwinCall → Title × Title
last_twins t u [] = (t, u)
last_twins t u (one_calls c ∷ cs) = last_twins (title_after t c) u cs
last_twins t u (other_calls c ∷ cs) = last_twins t (title_after u c) cs

-- The calls of each, by themselves.
abbrev pub of_one : List TwinCall → List TitleCall
of_one [] = []
of_one (one_calls c ∷ cs) = c ∷ of_one cs
of_one (other_calls c ∷ cs) = of_one cs

abbrev pub of_other : List TwinCall → List TitleCall
of_other [] = []
of_other (one_calls c ∷ cs) = of_other cs
of_other (other_calls c ∷ cs) = c ∷ of_other cs
