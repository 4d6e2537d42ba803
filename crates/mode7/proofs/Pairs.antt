-- What the four loops that put a block's pairs keep.
use mathlib.Core.Path.{◌≡◌, refl, sym, ap, ◌∙◌}
use mathlib.Core.List.{List, [], ◌∷◌}
use Prim.Native.Nat.{ℕ, ◌+◌, ◌*◌, ◌≤◌}
use lib.ListN.{length, get_or, get_or-eq_default}
use lib.Seq.{sets}
use Rattle.words.proofs.Filling.{Filled, filled_next}
use Rattle.mode7.specs.Block.{pair_of}

-- one pair more, of the two inputs' bytes at its place
pub next : (tiles map : List ℕ) {start out then : List ℕ} {i m t : ℕ} → Filled (pair_of tiles map) start 0 i out → m ≡ get_or map i 0 → t ≡ get_or tiles i 0
    → then ≡ sets out (i * 2) (m ∷ t ∷ []) → Filled (pair_of tiles map) start 0 (i + 1) then
next tiles map {out = out} {i = i} {m} {t} filled of_map of-tiles e =
    let pair : m ∷ t ∷ [] ≡ pair_of tiles map i = ap (λ (b : ℕ). b ∷ t ∷ []) of_map ∙ ap (λ (b : ℕ). get_or map i 0 ∷ b ∷ []) of-tiles in
    filled_next 2 (λ j. refl) filled (e ∙ ap (λ (l : List ℕ). sets out (i * 2) l) pair)

-- a byte of an input that has ended
pub ended : (bytes : List ℕ) (i : ℕ) → length bytes ≤ i → 0 ≡ get_or bytes i 0
ended bytes i le = sym (get_or-eq_default bytes 0 le)
