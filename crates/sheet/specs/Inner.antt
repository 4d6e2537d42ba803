-- What the functions inside the program promise each other.
-- Assumes nothing.
use Rattle.std.specs.Prelude.{ℕ, ◌≤◌, ◌<◌}
use Rattle.picture.specs.declared.Settings.{Settings}
use Rattle.picture.specs.declared.Counts.{Counts}
use Rattle.sheet.specs.Program.{tile_space, map_space}

-- The most bytes: of a text, of a line with its key and newline, of all the report's lines.
abbrev pub text_most : ℕ
text_most = 10

abbrev pub line_most : ℕ
line_most = 21

abbrev pub report_most : ℕ
report_most = 210

-- What a report is made of.
pub record Tellable (z : Settings) (counts : Counts) : Type 0 where
  pub known : z.mode < 16
  pub tile_length : counts.tile_bytes ≤ tile_space
  pub map_length : counts.map_bytes ≤ map_space
