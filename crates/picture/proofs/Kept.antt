-- The tiles of a picture, and what is kept of them as they are taken one after the other.
-- Assumes nothing.
use mathlib.Core.Path.{◌≡◌, refl, sym, ap, ◌∙◌, subst}
use mathlib.Core.Bool.{Bool, true}
use mathlib.Core.List.{List, [], ◌∷◌, ◌++◌}
use mathlib.Core.Logic.{⊎_elim}
use Prim.Native.Nat.{ℕ, zero, suc, ◌*◌, ◌^◌, ◌<◌, ◌≤◌}
use native.Mathlib.Nat.{eq-or-lt_of_le, le_of_suc-le-suc, not-suc-le-zero, mod-lt}
use native.Mathlib.Omega.{arith}
use lib.ListN.{length, get_or, length-append, get_or-append}
use lib.Pow.{pow_pos}
use lib.Seq.{get_or-append_seam}
use Rattle.words.specs.Loops.{each}
use Rattle.words.proofs.Items.{length-ones}
use Rattle.tileset.specs.Finding.{look_up, is_found}
use Rattle.tileset.specs.Keeping.{keep, keep_all, kept}
use Rattle.tileset.proofs.Keeping.{found-more, keep-self, keep-grows, Every, kept-every}
use Rattle.tileset.proofs.Stores.{length_cut, cut_at}
use Rattle.picture.specs.Cells.{pixel_at, cut_tile, cut_tiles}

-- ---- the tiles of a picture

module _ (d w h columns : ℕ) (pixels : List ℕ) where
  abbrev tile : ℕ → List ℕ
  tile i = cut_tile d w h columns pixels i

  abbrev tiles : ℕ → List (List ℕ)
  tiles n = cut_tiles d w h columns pixels n

  pub length-cut_tile : (i : ℕ) → length (tile i) ≡ w * h
  unfolding cut_tile
  length-cut_tile i =
      length_cut d (each (w * h) (λ p. get_or pixels (pixel_at w h columns i p) 0 ∷ [])) ∙ length-ones (w * h) (λ p. get_or pixels (pixel_at w h columns i p) 0)

  -- its pixels are cut to the depth
  pub cut_tile-small : (i p : ℕ) → get_or (tile i) p 0 < 2 ^ d
  unfolding cut_tile
  cut_tile-small i p =
      let l = each (w * h) (λ p. get_or pixels (pixel_at w h columns i p) 0 ∷ []) in
      subst (λ (n : ℕ). n < 2 ^ d) (sym (cut_at d l p)) (mod-lt (get_or l p 0) (pow_pos d))

  pub length-cut_tiles : (n : ℕ) → length (tiles n) ≡ n
  unfolding cut_tiles
  length-cut_tiles zero = refl
  length-cut_tiles (suc n) = omega (arith, length-append (tiles n) (tile n ∷ []), length-cut_tiles n)

  pub cut_tiles-at : (n i : ℕ) → i < n → get_or (tiles n) i [] ≡ tile i
  unfolding cut_tiles
  cut_tiles-at zero i lt = absurd (not-suc-le-zero lt)
  cut_tiles-at (suc n) i lt =
      ⊎_elim
      (λ (q : i ≡ n). ap (λ (k : ℕ). get_or (tiles n ++ tile n ∷ []) k []) (q ∙ sym (length-cut_tiles n)) ∙ get_or-append_seam (tiles n) (tile n) [] [] ∙ ap tile (sym q))
      (λ (l : i < n). get_or-append (tiles n) (tile n ∷ []) [] i (omega (arith, length-cut_tiles n)) ∙ cut_tiles-at n i l)
      (eq-or-lt_of_le (le_of_suc-le-suc lt))

-- ---- the tiles of a picture, taken one after the other

all-next : (discard on : Bool) (w h : ℕ) (st ts : List (List ℕ)) (t : List ℕ) → keep_all discard on w h st (ts ++ t ∷ []) ≡ keep discard on w h (keep_all discard on w h st ts) t
all-next discard on w h st [] t = refl
all-next discard on w h st (u ∷ ts) t = all-next discard on w h (keep discard on w h st u) ts t

-- after the tiles that are there already
module _ (discard on : Bool) (d w h columns : ℕ) (pixels : List ℕ) (had : List (List ℕ)) where
  abbrev tile_at : ℕ → List ℕ
  tile_at i = cut_tile d w h columns pixels i

  -- the stored tiles up to tile n
  abbrev after : ℕ → List (List ℕ)
  after n = keep_all discard on w h had (cut_tiles d w h columns pixels n)

  pub after_none : after 0 ≡ had
  unfolding cut_tiles
  after_none = refl

  pub after_next : (n : ℕ) → after (suc n) ≡ keep discard on w h (after n) (tile_at n)
  unfolding cut_tiles
  after_next n = all-next discard on w h had (cut_tiles d w h columns pixels n) (tile_at n)

  pub kept-grows : (n i : ℕ) → i ≤ n → length (after i) ≤ length (after n)
  kept-grows zero i le = let q : i ≡ 0 = omega arith in rw q (omega arith)
  kept-grows (suc n) i le =
      ⊎_elim (λ (q : i ≡ suc n). rw q (omega arith))
      (λ (l : i < suc n).
      omega (arith, kept-grows n i (le_of_suc-le-suc l), ap (λ (x : List (List ℕ)). length x) (after_next n), keep-grows discard on w h (after n) (tile_at n)))
      (eq-or-lt_of_le le)

  module _ (z : 0 < w) where
    pub found_here : (i : ℕ) → is_found (look_up on w h (after (suc i)) (tile_at i)) ≡ true
    found_here i =
        ap (λ (x : List (List ℕ)). is_found (look_up on w h x (tile_at i))) (after_next i)
        ∙ keep-self discard on w h z (after i) (tile_at i) (length-cut_tile d w h columns pixels i)

    -- later tiles do not change where a tile is found
    pub found-final : (n i : ℕ) → i < n → look_up on w h (after n) (tile_at i) ≡ look_up on w h (after (suc i)) (tile_at i)
    found-final zero i lt = absurd (not-suc-le-zero lt)
    found-final (suc n) i lt =
        ⊎_elim (λ (q : i ≡ n). ap (λ (k : ℕ). look_up on w h (after (suc k)) (tile_at i)) (sym q))
        (λ (l : i < n).
        let same = found-final n i l in
        ap (λ (x : List (List ℕ)). look_up on w h x (tile_at i)) (after_next n)
        ∙ found-more discard on w h (after n) (tile_at n) (tile_at i) (ap is_found same ∙ found_here i)
        ∙ same)
        (eq-or-lt_of_le (le_of_suc-le-suc lt))

-- ---- every stored tile

module _ (discard on : Bool) (d w h columns : ℕ) (pixels : List ℕ) (n : ℕ) where
  cut-every : (P : List ℕ → Type 0) → ((i : ℕ) → P (cut_tile d w h columns pixels i)) → Every P (cut_tiles d w h columns pixels n)
  cut-every P all i lt = subst P (sym (cut_tiles-at d w h columns pixels n i (omega (arith, length-cut_tiles d w h columns pixels n)))) (all i)

  -- every stored tile has w x h pixels, each below 2 to the depth
  pub kept-sizes : Every (λ t. length t ≡ w * h) (kept discard on w h (cut_tiles d w h columns pixels n))
  kept-sizes =
      kept-every discard on w h (λ t. length t ≡ w * h) (cut_tiles d w h columns pixels n)
      (cut-every (λ t. length t ≡ w * h) (length-cut_tile d w h columns pixels))

  pub kept_small : Every (λ t. (p : ℕ) → get_or t p 0 < 2 ^ d) (kept discard on w h (cut_tiles d w h columns pixels n))
  kept_small =
      kept-every discard on w h (λ t. (p : ℕ) → get_or t p 0 < 2 ^ d) (cut_tiles d w h columns pixels n)
      (cut-every (λ t. (p : ℕ) → get_or t p 0 < 2 ^ d) (cut_tile-small d w h columns pixels))
