-- The calls of a run as its caller sees them: "the caller leaves those unchanged between strips, and the map bytes already written and the record too",
-- and all its strips come with "the same buffer lengths throughout".
-- Assumes nothing.
use Rattle.std.specs.Prelude.{◌≡◌, List, [], ◌∷◌, ◌++◌, ◌⊎◌, ℕ, ◌*◌, ◌%◌, ◌<◌, length}
use Rattle.words.specs.Answers.{unless}
use Rattle.picture.specs.declared.Settings.{Settings}
use Rattle.picture.specs.declared.Picture.{Picture}
use Rattle.strip.specs.Strips.{run_at, take_says, Takes, stepped}
use Rattle.strip.specs.declared.Run.{Run}

-- What a caller has between strips: the record and both buffers. So a run begins.
pub record Between : Type 0 where
  pub run : Run
  pub tiles : List ℕ
  pub map : List ℕ

abbrev pub begun : Settings → List ℕ → List ℕ → Between
begun z tiles map = record { run = run_at z 0 0 0; tiles = tiles; map = map }

-- A strip: its pixels, its answer, and what the caller has after it.
pub record Strip : Type 0 where
  pub pixels : List ℕ
  pub answer : Picture
  pub left : Between

-- It kept its promise, with what the caller had.
abbrev pub Kept : Between → Strip → Type 0
Kept b s =
    Takes (take_says b.run s.pixels b.tiles (length b.map)) b.run s.pixels b.tiles b.map
    (stepped s.answer s.left.run) s.left.tiles s.left.map

-- Each of some strips, refused ones too, kept its promise, with what those before it left; and what they leave.
abbrev pub Strips : Between → List Strip → Type 0
Strips b [] = Unit {0}
Strips b (s ∷ ss) = Kept b s × Strips s.left ss

abbrev pub last_of : Between → List Strip → Between
last_of b [] = b
last_of b (s ∷ ss) = last_of s.left ss

-- The pixels of those that were accepted, one after the other, and of all.
abbrev pub accepted : List Strip → List ℕ
accepted [] = []
accepted (s ∷ ss) = unless s.answer.refusal s.pixels [] ++ accepted ss

abbrev pub pixels_of : List Strip → List ℕ
pixels_of [] = []
pixels_of (s ∷ ss) = s.pixels ++ pixels_of ss

-- "strips of whole tile rows, one or more at a time".
abbrev pub WholeRows : Settings → List Strip → Type 0
WholeRows z [] = Unit {0}
WholeRows z (s ∷ ss) = ((0 < length s.pixels) × (length s.pixels % (64 * z.columns) ≡ 0)) × WholeRows z ss

-- "every strip is accepted"; or the first that is not is refused with this number.
abbrev pub AllAccepted : List Strip → Type 0
AllAccepted [] = Unit {0}
AllAccepted (s ∷ ss) = (s.answer.refusal ≡ 0) × AllAccepted ss

abbrev pub FirstRefused : ℕ → List Strip → Type 0
FirstRefused n [] = ⊥
FirstRefused n (s ∷ ss) = (s.answer.refusal ≡ n) ⊎ ((s.answer.refusal ≡ 0) × FirstRefused n ss)
