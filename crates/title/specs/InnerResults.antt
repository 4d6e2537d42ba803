-- What a title's look-up comes to as a host is told of it: the contracts of functions inside are over it, and no export's contract and no law
-- reaches it.
-- Assumes nothing.
use Rattle.std.specs.Prelude.{Option, Some, None, Result, Ok, Err, true}
use Rattle.words.specs.InnerResults.{refusal_number}
use Rattle.words.specs.declared.refusal.Refusal.{Refusal}
use Rattle.title.specs.Titles.{no_held}
use Rattle.title.specs.declared.Held.{Held}
use Rattle.title.specs.declared.Hit.{Hit}

-- What a look-up comes to that found a tile, or none, or was refused.
abbrev pub hit_held : Option Hit → Held
hit_held (Some h) =
    record { refusal = 0; found = true; place = h.place.0; flip_h = h.flip.h; flip_v = h.flip.v; common = h.common; at = h.at; len = h.len }
hit_held None = no_held 0

abbrev pub title_held_by : Result (Option Hit) Refusal → Held
title_held_by (Ok h) = hit_held h
title_held_by (Err e) = no_held (refusal_number e)
