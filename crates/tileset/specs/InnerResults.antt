-- What the calls of a set come to as a host is told of them: the contracts of functions inside are over it, and no export's contract and no law
-- reaches it.
-- Assumes nothing.
use Rattle.std.specs.Prelude.{Result, Ok, Err}
use Rattle.words.specs.InnerResults.{refusal_number}
use Rattle.words.specs.declared.refusal.Refusal.{Refusal}
use Rattle.words.specs.declared.Number.{Number}
use Rattle.tileset.specs.Finding.{no_place, place_of}
use Rattle.tileset.specs.declared.Set.{Set}
use Rattle.tileset.specs.declared.SetAnswer.{SetAnswer}
use Rattle.tileset.specs.declared.Found.{Found}
use Rattle.tileset.specs.declared.Place.{Place}
use Rattle.tileset.specs.declared.Native.{Native}
use Rattle.tileset.specs.declared.Logical.{Logical}

-- What a host is told of a result, where a refused call hands a set back.
abbrev pub set_answer_by : Set → Result Set Refusal → SetAnswer
set_answer_by given (Ok z) = record { refusal = 0; set = z }
set_answer_by given (Err e) = record { refusal = refusal_number e; set = given }

-- What a host is told of a result.
abbrev pub place_by : Result Found Refusal → Place
place_by (Ok found) = place_of found
place_by (Err e) = no_place (refusal_number e)

-- What a host is told of a result: the number that is one kind's or the other's.
abbrev pub native_by : Result Native Refusal → Number
native_by (Ok cell) = record { refusal = 0; value = cell.0 }
native_by (Err e) = record { refusal = refusal_number e; value = 0 }

abbrev pub logical_by : Result Logical Refusal → Number
logical_by (Ok tile) = record { refusal = 0; value = tile.0 }
logical_by (Err e) = record { refusal = refusal_number e; value = 0 }
