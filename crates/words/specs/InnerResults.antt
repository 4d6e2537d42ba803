-- The refusals' numbers, and what an `Ok` and an `Err` answer to a host: the contracts of functions inside are over it, and no export's contract and no law
-- reaches it.
-- Assumes nothing.
use Rattle.std.specs.Prelude.{ℕ, Result, Ok, Err}
use Rattle.words.specs.declared.Written.{Written}
use Rattle.words.specs.declared.Number.{Number}
use Rattle.words.specs.declared.refusal.Refusal.{Refusal}
use Rattle.words.specs.declared.refusal.Refusal.TheVariants.{Mode, PceSprite, Depth, Size, Flips, Count, Length, Pixel, Component, Output, Room, Discarded, Settings, EntryTile, EntryPalette, EntryFlip, EntryPriority, Rows}

abbrev pub refusal_number : Refusal → ℕ
refusal_number Mode = 1
refusal_number PceSprite = 2
refusal_number Depth = 3
refusal_number Size = 4
refusal_number Flips = 5
refusal_number Count = 6
refusal_number Length = 7
refusal_number Pixel = 8
refusal_number Component = 9
refusal_number Output = 11
refusal_number Room = 12
refusal_number Discarded = 13
refusal_number Settings = 14
refusal_number EntryTile = 15
refusal_number EntryPalette = 16
refusal_number EntryFlip = 17
refusal_number EntryPriority = 18
refusal_number Rows = 19

-- The number that a host is told: "0 means done".
abbrev pub answered : {A : Type 0} → Result A Refusal → ℕ
answered (Ok x) = 0
answered (Err e) = refusal_number e

-- A call that writes bytes, and one that computes a number, as a host is told of them: "a refusal returns its number, all else returned 0".
abbrev pub written_by : Result ℕ Refusal → Written
written_by (Ok n) = record { refusal = 0; written = n }
written_by (Err e) = record { refusal = refusal_number e; written = 0 }

abbrev pub numbered_by : Result ℕ Refusal → Number
numbered_by (Ok n) = record { refusal = 0; value = n }
numbered_by (Err e) = record { refusal = refusal_number e; value = 0 }
