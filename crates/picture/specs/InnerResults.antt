-- What a conversion comes to as a host is told of it: the contracts of functions inside are over it, and no export's contract and no law
-- reaches it.
-- Assumes nothing.
use Rattle.std.specs.Prelude.{Result, Ok, Err}
use Rattle.words.specs.InnerResults.{refusal_number}
use Rattle.words.specs.declared.refusal.Refusal.{Refusal}
use Rattle.picture.specs.declared.Counts.{Counts}
use Rattle.picture.specs.declared.Picture.{Picture}

-- The counts of a conversion, or its refusal, as a host is told of them.
abbrev pub picture_by : Result Counts Refusal → Picture
picture_by (Ok k) = record { refusal = 0; tiles = k.tiles; discarded = k.discarded; tile_bytes = k.tile_bytes; map_bytes = k.map_bytes }
picture_by (Err e) = record { refusal = refusal_number e; tiles = 0; discarded = 0; tile_bytes = 0; map_bytes = 0 }
