-- What the functions behind a run answer.
-- Assumes nothing.
use Rattle.std.specs.Prelude.{◌≡◌, Bool, ◌||◌, ℕ, ◌≤◌, ltb}
use Rattle.words.specs.Answers.{first_applying}
use Rattle.picture.specs.declared.Settings.{Settings}
use Rattle.strip.specs.Strips.{settings_of, settings_checks, length_checks, strip_checks}
use Rattle.strip.specs.declared.Run.{Run}

-- The checks that all three calls begin with, and those of a strip that count no tiles.
unfoldable pub settings_says : Settings → ℕ
settings_says z = first_applying (settings_checks z)

unfoldable pub strip_says : Run → ℕ → ℕ → ℕ → ℕ
strip_says r len tile_space map_space = first_applying (strip_checks r len tile_space map_space)

-- Of them, those that follow the record's own: what they ask is that those passed.
unfoldable pub length_says : Run → ℕ → ℕ → ℕ
length_says r len map_space = first_applying (length_checks r len map_space)

pub record HasRows (r : Run) : Type 0 where
  pub settings : settings_says (settings_of r) ≡ 0
  pub taken : r.taken ≤ r.rows

-- More tiles than the room, or more rows than the picture.
abbrev pub counts_more : Run → ℕ → Bool
counts_more r room = ltb room r.tiles || ltb r.rows r.taken
