-- Inner shapes: what the code and its proofs compute on the way; no promise and no law reaches it.
-- Assumes nothing.
use Rattle.std.specs.Prelude.{ℕ, ◌*◌, ◌≤◌, ◌≡◌}
use Rattle.mode7.specs.Block.{pair_count}

-- What a block is made of and what it is split into fit, by their lengths.
pub record CanMake (tiles map space : ℕ) : Type 0 where
  pub tiles-fit : tiles ≤ pair_count
  pub map-fits : map ≤ pair_count
  pub block-fits : pair_count * 2 ≤ space

pub record CanSplit (block tile_space map_space : ℕ) : Type 0 where
  pub whole : block ≡ pair_count * 2
  pub tiles-fit : pair_count ≤ tile_space
  pub map-fits : pair_count ≤ map_space
