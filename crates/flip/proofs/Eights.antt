-- A row that is compared by eights.
-- Assumes nothing.
use mathlib.Core.Path.{◌≡◌, refl, sym, ap, ◌∙◌}
use mathlib.Core.Bool.{Bool, true, false}
use mathlib.Core.List.{List}
use mathlib.Core.Logic.{⊎_elim}
use Prim.Native.Nat.{ℕ, ◌+◌, ◌-◌, ◌<◌, ◌≤◌}
use native.Mathlib.Nat.{add_assoc, eq-zero-or-pos}
use native.Mathlib.Omega.{arith}
use lib.ListN.{get_or}
use Rattle.words.specs.Inner.{eight_at, word_at, byte_in}
use Rattle.words.proofs.Eights.{wide-same, word-byte-at}
use Rattle.flip.specs.Flips.{turned}
use Rattle.flip.specs.Inner.{RowAgrees, eight_from}

-- ---- where the eight pixels stand

eight-place : (across : Bool) (w x k : ℕ) → x + 8 ≤ w → k < 8 → eight_from across w x + turned across 8 k ≡ turned across w (x + k)
eight-place true w x k p q = omega arith
eight-place false w x k p q = refl

module _ (across : Bool) (store tile : List ℕ) (from i w x : ℕ) (room : x + 8 ≤ w) where
  there : (k : ℕ) → k < 8 → eight_at across store (from + eight_from across w x) k ≡ get_or store (from + turned across w (x + k)) 0
  there k p =
      ap (λ (j : ℕ). get_or store j 0) (add_assoc from (eight_from across w x) (turned across 8 k) ∙ ap (λ (j : ℕ). from + j) (eight-place across w x k room p))

  here : (k : ℕ) → eight_at false tile (i + x) k ≡ get_or tile (i + (x + k)) 0
  here k = ap (λ (j : ℕ). get_or tile j 0) (add_assoc i x k)

  module _ (r s : ℕ) (stored : r ≡ word_at across store (from + eight_from across w x)) (given : s ≡ word_at false tile (i + x)) where
    -- eight pixels that differ
    pub eight-differs : (r ≡ s → ⊥) → RowAgrees across store from tile i w → ⊥
    eight-differs d all =
        d (stored
        ∙ wide-same 8 0 (eight_at across store (from + eight_from across w x)) (eight_at false tile (i + x))
        (λ k _ p. there k p ∙ all (x + k) (omega arith) ∙ sym (here k))
        ∙ sym given)

    -- eight pixels more that agree
    pub eight-agrees : ((k : ℕ) → get_or store k 0 < 256) → ((k : ℕ) → get_or tile k 0 < 256) → r ≡ s
        → ((k : ℕ) → k < x → get_or store (from + turned across w k) 0 ≡ get_or tile (i + k) 0)
        → (k : ℕ) → k < x + 8 → get_or store (from + turned across w k) 0 ≡ get_or tile (i + k) 0
    eight-agrees small less e before k p =
        ⊎_elim (λ (q : k + 1 - x ≡ 0). before k (omega arith))
        (λ (q : 0 < k + 1 - x).
        let n : x + (k - x) ≡ k = omega arith in
        let l : k - x < 8 = omega arith in
        ap (λ (j : ℕ). get_or store (from + turned across w j) 0) (sym n)
        ∙ sym (there (k - x) l)
        ∙ sym (word-byte-at store small across (from + eight_from across w x) (k - x) l)
        ∙ ap (λ (v : ℕ). byte_in v (k - x)) (sym stored ∙ e ∙ given)
        ∙ word-byte-at tile less false (i + x) (k - x) l
        ∙ here (k - x)
        ∙ ap (λ (j : ℕ). get_or tile (i + j) 0) n)
        (eq-zero-or-pos (k + 1 - x))
