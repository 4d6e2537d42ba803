-- The entries of a picture's map.
-- Assumes nothing.
use Rattle.std.specs.Prelude.{Bool, false, ℕ}
use Rattle.mapentry.specs.declared.Mapentry.{Mapentry}
use Rattle.tileset.specs.Numbers.{first_cell, tile_of}
use Rattle.tileset.specs.declared.Found.{Found}
use Rattle.tileset.specs.declared.Found.TheVariants.{At, Nothing}

-- "Each entry has the look-up's place and flip, the given palette index, priority 0." A picture's tiles are all found among those it stores.
abbrev pub entry_as : ℕ → ℕ → Bool → Bool → Mapentry
entry_as tile palette h v = record { tile = tile; palette = palette; flip_h = h; flip_v = v; priority = false }

-- "Native numbers count 8x8 cells, logical numbers count whole tiles; one is never taken where the other is due": a place is a logical number, and an
-- entry holds the native number of its tile, w wide and h high.
abbrev pub entry_for : ℕ → ℕ → ℕ → ℕ → Found → Mapentry
entry_for m w h palette (At k f) = entry_as (first_cell m w h k.0) palette f.h f.v
entry_for m w h palette Nothing = entry_as 0 palette false false

-- And back: the tile that an entry names.
abbrev pub tile_named : ℕ → ℕ → ℕ → Mapentry → ℕ
tile_named m w h e = tile_of m w h e.tile
