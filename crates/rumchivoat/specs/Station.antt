-- The number of the interface, and the station's plain numbers as the values that the definitions speak of.
-- Assumes nothing.
use Rattle.std.specs.Prelude.{ℕ, Bool, cond}
use Rattle.color.specs.declared.Rounding.{Rounding}
use Rattle.color.specs.declared.Rounding.TheVariants.{Truncate, Nearest}
use Rattle.mapentry.specs.declared.Mapentry.{Mapentry}
use Rattle.picture.specs.declared.Settings.{Settings}

-- The number of the interface: one more with each landing that adds or changes a call.
abbrev pub interface : ℕ
interface = 7

abbrev pub rounding_of : Bool → Rounding
rounding_of nearest = cond nearest Nearest Truncate

abbrev pub entry_from : ℕ → ℕ → Bool → Bool → Bool → Mapentry
entry_from tile palette h v priority =
    record { tile = tile; palette = palette; flip_h = h; flip_v = v; priority = priority }

abbrev pub settings_from : ℕ → ℕ → Bool → Bool → ℕ → ℕ → ℕ → ℕ → Settings
settings_from mode depth flip discard limit palette columns rows =
    record { mode = mode; depth = depth; flip = flip; discard = discard; limit = limit; palette = palette; columns = columns; rows = rows }
