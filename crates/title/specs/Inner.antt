-- What the inner functions of titles ask of their callers: no export's contract reaches it.
-- Assumes nothing.
use Rattle.std.specs.Prelude.{cond, List, ℕ, ◌+◌, ◌*◌, ◌≤◌, length}
use Rattle.tileset.specs.Sets.{area}
use Rattle.tileset.specs.Finding.{look_up}
use Rattle.tileset.specs.Inner.{Looks}
use Rattle.tileset.specs.declared.Set.{Set}
use Rattle.tileset.specs.declared.Found.{Found}
use Rattle.title.specs.Titles.{is_common, part_start, part_length}

-- What is found among some tiles, as the title's set looks.
abbrev pub found_among : Set → List (List ℕ) → List ℕ → Found
found_among z tiles tile = look_up z.flips z.width z.height tiles tile

-- A title with its stores, of which each has all its tiles, and a tile to look up.
pub record Titled (z : Set) (count : ℕ) (common store pixels : List ℕ) : Type 0 where
  pub looks : Looks z store pixels
  pub inside : count * area z ≤ length common
  pub few : count + z.stored ≤ 65535

-- The part of what was found lies in its store.
pub record HasPart (z : Set) (count : ℕ) (common store : List ℕ) (found : Found) : Type 0 where
  pub small : area z ≤ 4096
  pub inside : part_start z count found + part_length z found ≤ length (cond (is_common count found) common store)
