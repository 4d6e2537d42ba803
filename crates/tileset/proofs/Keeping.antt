-- What is kept of some tiles: each is found among them where it was found when it was taken, and they are as many as are needed.
-- Assumes nothing.
use mathlib.Core.Path.{◌≡◌, refl, sym, ap, ◌∙◌, subst}
use mathlib.Core.Bool.{Bool, true, false, not, cond, ◌&&◌}
use mathlib.Core.List.{List, [], ◌∷◌, ◌++◌, append-nil, append_assoc}
use mathlib.Core.Logic.{⊎_elim}
use Prim.Native.Nat.{ℕ, suc, ◌+◌, ◌*◌, ◌<◌, ◌≤◌}
use native.Mathlib.Nat.{eq-or-lt_of_le, not-suc-le-zero, add-zero, zero-add, le_trans}
use native.Mathlib.Omega.{arith}
use lib.ListN.{length, get_or, length-append, get_or-append}
use lib.Seq.{get_or-append_seam}
use Rattle.words.specs.Bytes.{bit}
use Rattle.words.proofs.Loops.{either}
use Rattle.flip.specs.Flips.{flip}
use Rattle.flip.specs.declared.Flip.{Flip}
use Rattle.tileset.specs.Finding.{logical, look_up, is_found}
use Rattle.tileset.specs.Matched.{matches_some, Apart}
use Rattle.tileset.specs.Keeping.{keep, keep_all, kept, fresh, again, need, discarded, repeats}
use Rattle.tileset.specs.declared.Logical.{Logical}
use Rattle.tileset.specs.declared.Found.{Found}
use Rattle.tileset.specs.declared.Found.TheVariants.{At, Nothing}
use Rattle.tileset.proofs.Search.{look-more, look-last, look-told}
use Rattle.tileset.proofs.Matched.{look-some, Alike, alike-kept, alike-gone, apart_none, apart_more}

-- ---- one tile more

module _ (discard on : Bool) (w h : ℕ) where
  -- tiles after tiles
  pub keep_append : (st xs ys : List (List ℕ)) → keep_all discard on w h st (xs ++ ys) ≡ keep_all discard on w h (keep_all discard on w h st xs) ys
  keep_append st [] ys = refl
  keep_append st (x ∷ xs) ys = keep_append (keep discard on w h st x) xs ys

  pub kept_next : (ts : List (List ℕ)) (t : List ℕ) → kept discard on w h (ts ++ t ∷ []) ≡ keep discard on w h (kept discard on w h ts) t
  unfolding kept
  kept_next ts t = keep_append [] ts (t ∷ [])

  pub found-more : (st : List (List ℕ)) (u t : List ℕ) → is_found (look_up on w h st t) ≡ true → look_up on w h (keep discard on w h st u) t ≡ look_up on w h st t
  unfolding keep
  found-more st u t p =
      either (λ (x : List (List ℕ)). look_up on w h x t ≡ look_up on w h st t) (discard && is_found (look_up on w h st u)) st (st ++ u ∷ [])
      refl (look-more on w h t st (u ∷ []) p)

  -- what a look-up finds right after the tile was taken: what it found before, or the last place
  pub after-found : (st : List (List ℕ)) (t : List ℕ) {k : Logical} {f : Flip} → look_up on w h st t ≡ At k f → look_up on w h (keep discard on w h st t) t ≡ At k f
  after-found st t e = found-more st t t (ap is_found e) ∙ e

  not_found : (d : Bool) (r : Found) → r ≡ Nothing → (d && is_found r) ≡ false
  not_found true r e = ap is_found e
  not_found false r e = refl

  -- a tile that is not found is stored
  pub keep-new : (st : List (List ℕ)) (t : List ℕ) → look_up on w h st t ≡ Nothing → keep discard on w h st t ≡ st ++ t ∷ []
  unfolding keep
  keep-new st t e = ap (λ (b : Bool). cond b st (st ++ t ∷ [])) (not_found discard (look_up on w h st t) e)

  pub after-new : 0 < w → (st : List (List ℕ)) (t : List ℕ) → length t ≡ w * h → look_up on w h st t ≡ Nothing
      → look_up on w h (keep discard on w h st t) t ≡ At (logical (length st)) (flip false false)
  after-new z st t len e = ap (λ (x : List (List ℕ)). look_up on w h x t) (keep-new st t e) ∙ look-last on w h t z len st e

  self-case : 0 < w → (st : List (List ℕ)) (t : List ℕ) → length t ≡ w * h → (r : Found) → look_up on w h st t ≡ r → is_found (look_up on w h (keep discard on w h st t) t) ≡ true
  self-case z st t len (At k f) e = ap is_found (after-found st t e)
  self-case z st t len Nothing e = ap is_found (after-new z st t len e)

  -- a tile is found once it was taken
  pub keep-self : 0 < w → (st : List (List ℕ)) (t : List ℕ) → length t ≡ w * h → is_found (look_up on w h (keep discard on w h st t) t) ≡ true
  keep-self z st t len = self-case z st t len (look_up on w h st t) refl

  pub found_below : (st : List (List ℕ)) (t : List ℕ) {k : Logical} {f : Flip} → look_up on w h st t ≡ At k f → k.0 < length st
  found_below st t e = (look-told on w h t st e).0

  pub keep-grows : (st : List (List ℕ)) (t : List ℕ) → length st ≤ length (keep discard on w h st t)
  unfolding keep
  keep-grows st t =
      either (λ (x : List (List ℕ)). length st ≤ length x) (discard && is_found (look_up on w h st t)) st (st ++ t ∷ [])
      (omega arith) (omega (arith, length-append st (t ∷ [])))

  pub all-grow : (st ts : List (List ℕ)) → length st ≤ length (keep_all discard on w h st ts)
  all-grow st [] = omega arith
  all-grow st (t ∷ ts) = le_trans (keep-grows st t) (all-grow (keep discard on w h st t) ts)

-- ---- what holds of every tile holds of those that are stored

abbrev pub Every : (List ℕ → Type 0) → List (List ℕ) → Type 0
Every P ts = (i : ℕ) → i < length ts → P (get_or ts i [])

every_more : (P : List ℕ → Type 0) (ts : List (List ℕ)) (t : List ℕ) → Every P ts → P t → Every P (ts ++ t ∷ [])
every_more P ts t all p i lt =
    let len : length (ts ++ t ∷ []) ≡ length ts + 1 = length-append ts (t ∷ []) in
    ⊎_elim
    (λ (q : i ≡ length ts). subst P (sym (ap (λ (k : ℕ). get_or (ts ++ t ∷ []) k []) q ∙ get_or-append_seam ts t [] [])) p)
    (λ (l : i < length ts). subst P (sym (get_or-append ts (t ∷ []) [] i l)) (all i l))
    (eq-or-lt_of_le (omega arith))

module _ (discard on : Bool) (w h : ℕ) (P : List ℕ → Type 0) where
  keep-every : (st : List (List ℕ)) (t : List ℕ) → Every P st → P t → Every P (keep discard on w h st t)
  unfolding keep
  keep-every st t all p = either (Every P) (discard && is_found (look_up on w h st t)) st (st ++ t ∷ []) all (every_more P st t all p)

  all-every : (st ts : List (List ℕ)) → Every P st → Every P ts → Every P (keep_all discard on w h st ts)
  all-every st [] all others = all
  all-every st (t ∷ ts) all others =
      all-every (keep discard on w h st t) ts (keep-every st t all (others 0 (omega arith))) (λ i lt. others (suc i) (omega arith))

  pub kept-every : (ts : List (List ℕ)) → Every P ts → Every P (kept discard on w h ts)
  unfolding kept
  kept-every ts all = all-every [] ts (λ i lt. absurd (not-suc-le-zero lt)) all

-- ---- how many they are

module _ (on : Bool) (w h : ℕ) where
  pub fresh-append : (seen xs ys : List (List ℕ)) → fresh on w h seen (xs ++ ys) ≡ fresh on w h seen xs + fresh on w h (seen ++ xs) ys
  fresh-append seen [] ys = rw (append-nil, zero-add)
  fresh-append seen (x ∷ xs) ys = omega (arith, fresh-append (seen ++ x ∷ []) xs ys, ap (λ (l : List (List ℕ)). fresh on w h l ys) (append_assoc seen (x ∷ []) xs))

  pub again-append : (seen xs ys : List (List ℕ)) → again on w h seen (xs ++ ys) ≡ again on w h seen xs + again on w h (seen ++ xs) ys
  again-append seen [] ys = rw (append-nil, zero-add)
  again-append seen (x ∷ xs) ys = omega (arith, again-append (seen ++ x ∷ []) xs ys, ap (λ (l : List (List ℕ)). again on w h l ys) (append_assoc seen (x ∷ []) xs))

  one-sum : (b : Bool) → bit (not b) + bit b ≡ 1
  one-sum true = refl
  one-sum false = refl

  all-sum : (seen ts : List (List ℕ)) → fresh on w h seen ts + again on w h seen ts ≡ length ts
  all-sum seen [] = refl
  all-sum seen (t ∷ ts) = omega (arith, one-sum (matches_some on w h seen t), all-sum (seen ++ t ∷ []) ts)

  -- each tile is needed or discarded
  pub need-discarded : (discard : Bool) (ts : List (List ℕ)) → need discard on w h ts + discarded discard on w h ts ≡ length ts
  unfolding need discarded
  need-discarded true ts = all-sum [] ts
  need-discarded false ts = add-zero (length ts)

  pub none-discarded : (ts : List (List ℕ)) → discarded false on w h ts ≡ 0
  unfolding discarded
  none-discarded ts = refl

  module _ (z : 0 < w) where
    one-need : (b : Bool) (st seen : List (List ℕ)) (t : List ℕ) (ts : List (List ℕ)) → matches_some on w h st t ≡ b → Alike on w h st seen
        → ((st seen : List (List ℕ)) → Alike on w h st seen → length (keep_all true on w h st ts) ≡ length st + fresh on w h seen ts)
        → length (keep_all true on w h (cond b st (st ++ t ∷ [])) ts) ≡ length st + (bit (not b) + fresh on w h (seen ++ t ∷ []) ts)
    one-need true st seen t ts e same rest = omega (arith, rest st (seen ++ t ∷ []) (alike-gone on w h z st seen t same e))
    one-need false st seen t ts e same rest =
        omega (arith, rest (st ++ t ∷ []) (seen ++ t ∷ []) (alike-kept on w h st seen t same), length-append st (t ∷ []))

    all-need : (st seen ts : List (List ℕ)) → Alike on w h st seen → length (keep_all true on w h st ts) ≡ length st + fresh on w h seen ts
    unfolding keep
    all-need st seen [] same = omega arith
    all-need st seen (t ∷ ts) same =
        ap (λ (b : Bool). length (keep_all true on w h (cond b st (st ++ t ∷ [])) ts)) (look-some on w h st t)
        ∙ one-need (matches_some on w h st t) st seen t ts refl same (λ st seen same. all-need st seen ts same)
        ∙ ap (λ (b : Bool). length st + (bit (not b) + fresh on w h (seen ++ t ∷ []) ts)) (same t)

  off-all : (st ts : List (List ℕ)) → length (keep_all false on w h st ts) ≡ length st + length ts
  unfolding keep
  off-all st [] = omega arith
  off-all st (t ∷ ts) = omega (arith, off-all (st ++ t ∷ []) ts, length-append st (t ∷ []))

  -- each tile is stored, or it matches an earlier one and is not
  pub kept-count : (discard : Bool) (st ts : List (List ℕ)) → (0 < length ts → 0 < w)
      → length (keep_all discard on w h st ts) + repeats discard on w h st ts ≡ length st + length ts
  kept-count false st ts wide = omega (arith, off-all st ts)
  kept-count true st [] wide = refl
  kept-count true st (t ∷ ts) wide = omega (arith, all-need (wide (omega arith)) st st (t ∷ ts) (λ u. refl), all-sum st (t ∷ ts))

  one_apart : (b : Bool) (st : List (List ℕ)) (t : List ℕ) → matches_some on w h st t ≡ b → Apart on w h st → Apart on w h (cond b st (st ++ t ∷ []))
  one_apart true st t e apart = apart
  one_apart false st t e apart = apart_more on w h st t e apart

  -- with discarding on, no two stored tiles match where none did
  pub all_apart : (st ts : List (List ℕ)) → Apart on w h st → Apart on w h (keep_all true on w h st ts)
  unfolding keep
  all_apart st [] apart = apart
  all_apart st (t ∷ ts) apart =
      all_apart (cond (is_found (look_up on w h st t)) st (st ++ t ∷ [])) ts
      (one_apart (is_found (look_up on w h st t)) st t (sym (look-some on w h st t)) apart)

  pub kept-apart : (ts : List (List ℕ)) → Apart on w h (kept true on w h ts)
  unfolding kept
  kept-apart ts = all_apart [] ts (apart_none on w h)

-- A tile that matches no earlier one is one that is not found among those stored
pub kept-need : (on : Bool) (w h : ℕ) (z : 0 < w) (discard : Bool) (ts : List (List ℕ)) → length (kept discard on w h ts) ≡ need discard on w h ts
unfolding kept need discarded
kept-need on w h z discard ts = omega (arith, kept-count on w h discard [] ts (λ lt. z), need-discarded on w h discard ts)
