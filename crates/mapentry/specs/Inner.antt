-- The inner shapes of entries: where the code finds each value of an entry in its word, computed from the fields of document 01.
-- Assumes nothing.
use Rattle.std.specs.Prelude.{ℕ, ◌+◌, ◌*◌, ◌/◌, ◌%◌, ◌^◌, ◌≤◌, not, List, eqb, length}
use Rattle.words.specs.Answers.{◌when◌}
use Rattle.words.specs.Fields.{Field}
use Rattle.words.specs.Inner.{bits_for, start_of, run_of, start_again}
use Rattle.mapentry.specs.declared.Mapentry.{Mapentry}
use Rattle.mapentry.specs.declared.Places.{Places}

abbrev pub at : ℕ → ℕ → ℕ → ℕ → ℕ → ℕ → ℕ → Places
at low high palette bits h v priority =
    record { low = low; high = high; palette = palette; bits = bits; h = h; v = v; priority = priority }

-- The places of an entry's values: the tile index (value 0) in the lowest bits, but for a bit that may stand apart, high; the palette index (1)
-- with its bits; the flips (2, 3); priority (4). What has no field stands at 16, above every word.
unfoldable pub places_in : List Field → Places
places_in fs =
    at (run_of 0 fs) (start_again 0 0 fs) (start_of 0 1 fs) (bits_for 1 fs) (start_of 0 2 fs) (start_of 0 3 fs) (start_of 0 4 fs)

-- No place is above the word.
pub record Near (p : Places) : Type 0 where
  pub low : p.low ≤ 12
  pub high : p.high ≤ 16
  pub palette : p.palette ≤ 16
  pub bits : p.bits ≤ 4
  pub h : p.h ≤ 16
  pub v : p.v ≤ 16
  pub priority : p.priority ≤ 16

-- The entry whose values stand in a word at these places.
abbrev pub read_at : Places → ℕ → Mapentry
read_at p w =
    record {
      tile = w % 2 ^ p.low + w / 2 ^ p.high % 2 * 2 ^ p.low;
      palette = w / 2 ^ p.palette % 2 ^ p.bits;
      flip_h = eqb (w / 2 ^ p.h % 2) 1;
      flip_v = eqb (w / 2 ^ p.v % 2) 1;
      priority = eqb (w / 2 ^ p.priority % 2) 1;
    }

-- What reading size bytes answers: 7 where there are more or fewer.
abbrev pub size_says : ℕ → List ℕ → ℕ
size_says size bytes = 7 when not (eqb (length bytes) size)
