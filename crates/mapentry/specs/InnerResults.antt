-- What reading an entry comes to as a host is told of it: the contracts of functions inside are over it, and no export's contract and no law
-- reaches it.
-- Assumes nothing.
use Rattle.std.specs.Prelude.{Result, Ok, Err}
use Rattle.words.specs.InnerResults.{refusal_number}
use Rattle.words.specs.declared.refusal.Refusal.{Refusal}
use Rattle.mapentry.specs.Entry.{blank, entry_answer}
use Rattle.mapentry.specs.declared.Mapentry.{Mapentry}
use Rattle.mapentry.specs.declared.Entry.{Entry}

-- The record that a host is given of a reading.
abbrev pub entry_by : Result Mapentry Refusal → Entry
entry_by (Ok e) = entry_answer 0 e
entry_by (Err r) = entry_answer (refusal_number r) blank
