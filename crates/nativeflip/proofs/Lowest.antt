-- "Where several apply, the lowest number is given": of a flip.
-- Assumes nothing.
use mathlib.Core.Path.{◌≡◌}
use mathlib.Core.List.{[], ◌∷◌}
use Prim.Native.Nat.{ℕ}
use Rattle.words.specs.Answers.{lowest}
use Rattle.words.proofs.Order.{gives-when, first-lowest}
use Rattle.nativeflip.specs.Flipping.{flip_checks, flip_says}

pub flip-lowest : (m d len space : ℕ) → flip_says m d len space ≡ lowest (flip_checks m d len space)
unfolding flip_says
flip-lowest m d len space = first-lowest (1 ∷ 2 ∷ 3 ∷ 7 ∷ 11 ∷ []) (flip_checks m d len space) tt (search gives-when depth 20)
