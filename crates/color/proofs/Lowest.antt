-- "Where several apply, the lowest number is given": the numbers of each call's checks ascend.
-- Assumes nothing.
use mathlib.Core.Path.{◌≡◌}
use mathlib.Core.List.{List, [], ◌∷◌}
use Prim.Native.Nat.{ℕ}
use Rattle.words.specs.Answers.{lowest}
use Rattle.words.proofs.Order.{gives-when, first-lowest}
use Rattle.color.specs.Color.{pack_checks, pack_says, unpack_checks, unpack_says}
use Rattle.color.specs.Channel.{mode_checks, mode_says, scale_checks, scale_says}

pub pack-lowest : (m : ℕ) (cs : List ℕ) (space : ℕ) → pack_says m cs space ≡ lowest (pack_checks m cs space)
unfolding pack_says
pack-lowest m cs space = first-lowest (1 ∷ 7 ∷ 9 ∷ 11 ∷ []) (pack_checks m cs space) tt (search gives-when depth 20)

pub unpack-lowest : (m len space : ℕ) → unpack_says m len space ≡ lowest (unpack_checks m len space)
unfolding unpack_says
unpack-lowest m len space = first-lowest (1 ∷ 7 ∷ 11 ∷ []) (unpack_checks m len space) tt (search gives-when depth 20)

pub mode-lowest : (m : ℕ) → mode_says m ≡ lowest (mode_checks m)
mode-lowest m = first-lowest (1 ∷ []) (mode_checks m) tt (search gives-when depth 20)

pub scale-lowest : (m v : ℕ) → scale_says m v ≡ lowest (scale_checks m v)
scale-lowest m v = first-lowest (1 ∷ 9 ∷ []) (scale_checks m v) tt (search gives-when depth 20)
