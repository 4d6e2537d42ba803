-- The program on slices: one number and one text for every input.
-- Assumes nothing.
use Rattle.std.specs.Prelude.{ℕ, ◌≡◌, List, ◌++◌, cond, ltb, length, drop, Option, Some, None}
use Rattle.words.specs.Answers.{unless, written, overwrite}
use Rattle.words.specs.declared.Written.{Written}
use Rattle.picture.specs.declared.Settings.{Settings}
use Rattle.picture.specs.Converting.{convert_says, answer_of, tile_bytes_of, map_bytes_of}
use Rattle.sheet.specs.Sheet.{sheet_in}
use Rattle.sheet.specs.Report.{report_text, refused_text}
use Rattle.sheet.specs.declared.Sheet.{Sheet}

-- "The tile buffer has 65,536 bytes." The map of 32 x 32 entries has 2,048 at most.
abbrev pub tile_space : ℕ
tile_space = 65536

abbrev pub map_space : ℕ
map_space = 2048

-- So much input tells every sheet from what is longer, and so much output holds every text.
abbrev pub input_space : ℕ
input_space = 65642

abbrev pub out_space : ℕ
out_space = 67840

abbrev pub picture_says : Settings → List ℕ → ℕ
picture_says z pixels = convert_says z pixels tile_space map_space

-- "Program only, before all others: settings lines not as below" (14); "the other numbers follow the table".
abbrev pub sheet_number : List ℕ → Option Sheet → ℕ
sheet_number input (Some read) = picture_says read.settings (drop read.start input)
sheet_number input None = 14

unfoldable pub number_of : List ℕ → ℕ
number_of input = sheet_number input (sheet_in input)

-- The report, then the tile bytes and the map bytes.
unfoldable pub picture_text : Settings → List ℕ → List ℕ
picture_text z pixels = report_text z (answer_of 0 z pixels) ++ tile_bytes_of z pixels ++ map_bytes_of z pixels

unfoldable pub picture_tells : Settings → List ℕ → List ℕ
picture_tells z pixels = unless (picture_says z pixels) (picture_text z pixels) (refused_text (picture_says z pixels))

-- All that the program writes.
abbrev pub sheet_tells : List ℕ → Option Sheet → List ℕ
sheet_tells input (Some read) = picture_tells read.settings (drop read.start input)
sheet_tells input None = refused_text 14

unfoldable pub text_of : List ℕ → List ℕ
text_of input = sheet_tells input (sheet_in input)

-- The promise: the number that the text tells, and the whole text; where it does not fit, 11 and nothing.
abbrev pub fully : ℕ → ℕ → Written
fully n len = record { refusal = n; written = len }

pub record Ran (number : ℕ) (text before : List ℕ) (r : Written) (after : List ℕ) : Type 0 where
  pub answer : r ≡ cond (ltb (length before) (length text)) (written 11 0) (fully number (length text))
  pub lent : after ≡ cond (ltb (length before) (length text)) before (overwrite before text)
