-- "Where several apply, the lowest number is given": the numbers of each call's checks ascend.
-- Assumes nothing.
use mathlib.Core.Path.{◌≡◌}
use mathlib.Core.List.{List, [], ◌∷◌}
use Prim.Native.Nat.{ℕ}
use Rattle.words.specs.Answers.{lowest}
use Rattle.words.proofs.Order.{gives-when, first-lowest}
use Rattle.tile.specs.Tile.{pack_checks, pack_says, unpack_checks, unpack_says}

pub pack-lowest : (m d w h : ℕ) (pixels : List ℕ) (space : ℕ) → pack_says m d w h pixels space ≡ lowest (pack_checks m d w h pixels space)
unfolding pack_says
pack-lowest m d w h pixels space =
    first-lowest (1 ∷ 3 ∷ 4 ∷ 7 ∷ 8 ∷ 11 ∷ []) (pack_checks m d w h pixels space) tt (search gives-when depth 20)

pub unpack-lowest : (m d w h len space : ℕ) → unpack_says m d w h len space ≡ lowest (unpack_checks m d w h len space)
unfolding unpack_says
unpack-lowest m d w h len space =
    first-lowest (1 ∷ 3 ∷ 4 ∷ 7 ∷ 11 ∷ []) (unpack_checks m d w h len space) tt (search gives-when depth 20)
