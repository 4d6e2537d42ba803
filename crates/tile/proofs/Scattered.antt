-- Words stored each at its own place, in any order: once all are stored, the slice has them one after the other.
-- Assumes nothing.
use mathlib.Core.Path.{◌≡◌, refl, sym, ap, ◌∙◌, subst}
use mathlib.Core.List.{List, [], ◌∷◌}
use mathlib.Core.Logic.{⊎_elim}
use Prim.Native.Nat.{ℕ, zero, suc, ◌+◌, ◌-◌, ◌*◌, ◌/◌, ◌%◌, ◌≤◌, ◌<◌}
use native.Mathlib.Nat.{eq-or-lt_of_le, eq-zero-or-pos, le_of_suc-le-suc, not-suc-le-zero, add-zero, add-suc, suc-add}
use native.Mathlib.Numerals.{add-one}
use native.Mathlib.Omega.{arith}
use lib.ListN.{length, get_or, set, length-set}
use lib.Seq.{sets, length-sets, get_or-set_same, get_or-set_other, ext_get_or}
use Rattle.words.specs.Inner.{byte_in, bytes_in}
use Rattle.words.specs.Loops.{each}
use Rattle.words.proofs.Items.{length-ones, number_at}
use Rattle.tile.specs.Inner.{HasWord, stored_at}

-- ---- what a run of stores leaves before it, behind it and in it

sets-before : (vs l : List ℕ) (i k : ℕ) → k < i → get_or (sets l i vs) k 0 ≡ get_or l k 0
sets-before [] l i k lt = refl
sets-before (v ∷ vs) l i k lt = sets-before vs (set l i v) (suc i) k (omega arith) ∙ get_or-set_other l i k v 0 (λ e. absurd (omega arith))

sets_behind : (vs l : List ℕ) (i k : ℕ) → i + length vs ≤ k → get_or (sets l i vs) k 0 ≡ get_or l k 0
sets_behind [] l i k le = refl
sets_behind (v ∷ vs) l i k le = sets_behind vs (set l i v) (suc i) k (omega arith) ∙ get_or-set_other l i k v 0 (λ e. absurd (omega arith))

sets-in : (vs l : List ℕ) (i k : ℕ) → i + length vs ≤ length l → k < length vs → get_or (sets l i vs) (i + k) 0 ≡ get_or vs k 0
sets-in [] l i k fits lt = absurd (not-suc-le-zero lt)
sets-in (v ∷ vs) l i zero fits lt =
    ap (λ (n : ℕ). get_or (sets (set l i v) (suc i) vs) n 0) (add-zero i)
    ∙ sets-before vs (set l i v) (suc i) i (omega arith)
    ∙ get_or-set_same l i v 0 (omega arith)
sets-in (v ∷ vs) l i (suc k) fits lt =
    ap (λ (n : ℕ). get_or (sets (set l i v) (suc i) vs) n 0) (add-suc i k ∙ sym (suc-add i k))
    ∙ sets-in vs (set l i v) (suc i) k (omega (arith, length-set l i v)) (le_of_suc-le-suc lt)

-- ---- the words of f, n of them from place at on, of which those are stored that have their turn before s

below : (i j : ℕ) → i - j ≡ 0 → i ≤ j
below i j z = omega arith

pub record Scattered (turn : ℕ → ℕ) (f : ℕ → ℕ) (out : List ℕ) (at n s : ℕ) (now : List ℕ) : Type 0 where
  pub long : length now ≡ length out
  pub put : (i m : ℕ) → i < n → m < 8 → turn i < s → get_or now (at + i * 8 + m) 0 ≡ f (i * 8 + m)
  pub before : (k : ℕ) → k < at → get_or now k 0 ≡ get_or out k 0
  pub behind : (k : ℕ) → at + n * 8 ≤ k → get_or now k 0 ≡ get_or out k 0

pub scattered-none : (turn f : ℕ → ℕ) (out : List ℕ) (at n : ℕ) → Scattered turn f out at n 0 out
scattered-none turn f out at n =
    record { long = refl; put = λ i m li lm lt. absurd (not-suc-le-zero lt); before = λ k lt. refl; behind = λ k le. refl }

-- k words from turn s on: word t of them is word which t of f, goes to its place, and has turn s + t
pub record Turns (turn f : ℕ → ℕ) (at n s k : ℕ) (place word which : ℕ → ℕ) : Type 0 where
  pub placed : (t : ℕ) → t < k → place t ≡ at + which t * 8
  pub inside : (t : ℕ) → t < k → which t < n
  pub its : (t i : ℕ) → t < k → i < n → turn i ≡ s + t → i ≡ which t
  pub has : (t : ℕ) → t < k → HasWord f (which t) (word t)

fewer : {turn f : ℕ → ℕ} {at n s k : ℕ} {place word which : ℕ → ℕ} → Turns turn f at n s (suc k) place word which → Turns turn f at n s k place word which
fewer h =
    record {
      placed = λ t l. h.placed t (omega arith);
      inside = λ t l. h.inside t (omega arith);
      its = λ t i l. h.its t i (omega arith);
      has = λ t l. h.has t (omega arith);
    }

module _ {turn f : ℕ → ℕ} {out : List ℕ} {at n : ℕ} (space : at + n * 8 ≤ length out) where
  -- word j at its place, whose turn it is
  module _ {s : ℕ} {now : List ℕ} (h : Scattered turn f out at n s now) (j w : ℕ) (lj : j < n) (its : (i : ℕ) → i < n → turn i ≡ s → i ≡ j)
      (has : HasWord f j w) where
    abbrev then : List ℕ
    then = sets now (at + j * 8) (bytes_in w)

    in-word : (m : ℕ) → m < 8 → get_or then (at + j * 8 + m) 0 ≡ f (j * 8 + m)
    in-word m lm = sets-in (bytes_in w) now (at + j * 8) m (omega (arith, h.long)) lm ∙ number_at 8 (byte_in w) m lm ∙ has m lm

    other_word : (i m : ℕ) → i < n → m < 8 → turn i < s + 1 → (i ≡ j → ⊥) → get_or now (at + i * 8 + m) 0 ≡ f (i * 8 + m)
    other_word i m li lm lt other =
        ⊎_elim (λ (e : turn i ≡ s). absurd (other (its i li e))) (λ (l : turn i < s). h.put i m li lm l)
        (eq-or-lt_of_le (le_of_suc-le-suc (subst (λ (q : ℕ). turn i < q) (add-one s) lt)))

    put_then : (i m : ℕ) → i < n → m < 8 → turn i < s + 1 → get_or then (at + i * 8 + m) 0 ≡ f (i * 8 + m)
    put_then i m li lm lt =
        ⊎_elim
        (λ (z : i - j ≡ 0).
        ⊎_elim (λ (e : i ≡ j). subst (λ (k : ℕ). get_or then (at + k * 8 + m) 0 ≡ f (k * 8 + m)) (sym e) (in-word m lm))
        (λ (l : i < j). sets-before (bytes_in w) now (at + j * 8) (at + i * 8 + m) (omega arith) ∙ other_word i m li lm lt (λ e. absurd (omega arith)))
        (eq-or-lt_of_le (below i j z)))
        (λ (l : 0 < i - j). sets_behind (bytes_in w) now (at + j * 8) (at + i * 8 + m) (omega arith) ∙ other_word i m li lm lt (λ e. absurd (omega arith)))
        (eq-zero-or-pos (i - j))

    pub scattered-next : Scattered turn f out at n (s + 1) then
    scattered-next =
        record {
          long = length-sets now (at + j * 8) (bytes_in w) ∙ h.long;
          put = put_then;
          before = λ k lt. sets-before (bytes_in w) now (at + j * 8) k (omega arith) ∙ h.before k lt;
          behind = λ k le. sets_behind (bytes_in w) now (at + j * 8) k (omega arith) ∙ h.behind k le;
        }

  -- words stored one after the other, each when it is its turn
  scattered-more : (k : ℕ) {s : ℕ} {now : List ℕ} {place word which : ℕ → ℕ} → Scattered turn f out at n s now → Turns turn f at n s k place word which
      → Scattered turn f out at n (s + k) (stored_at k place word now)
  unfolding stored_at
  scattered-more zero {s} {now} h turns = subst (λ (q : ℕ). Scattered turn f out at n q now) (sym (add-zero s)) h
  scattered-more (suc k) {s} {now} {place} {word} {which} h turns =
      let lt : k < suc k = omega arith in
      let e : s + k + 1 ≡ s + suc k = omega arith in
      let so_far = stored_at k place word now in
      let next = scattered-next (scattered-more k h (fewer turns)) (which k) (word k) (turns.inside k lt) (λ i. turns.its k i lt) (turns.has k lt) in
      subst (λ (q : ℕ). Scattered turn f out at n q (sets so_far (place k) (bytes_in (word k)))) e
      (subst (λ (p : ℕ). Scattered turn f out at n (s + k + 1) (sets so_far p (bytes_in (word k)))) (sym (turns.placed k lt)) next)

  pub scattered-then : (k : ℕ) {s e : ℕ} {now then : List ℕ} {place word which : ℕ → ℕ} → Scattered turn f out at n s now
      → Turns turn f at n s k place word which → s + k ≡ e → then ≡ stored_at k place word now → Scattered turn f out at n e then
  scattered-then k {s} {e} {now} {then} {place} {word} h turns q is =
      subst (λ (l : List ℕ). Scattered turn f out at n e l) (sym is)
      (subst (λ (i : ℕ). Scattered turn f out at n i (stored_at k place word now)) q (scattered-more k h turns))

  -- all of them
  pub scattered-all : {s : ℕ} {now : List ℕ} → Scattered turn f out at n s now → ((i : ℕ) → i < n → turn i < s)
      → now ≡ sets out at (each (n * 8) (λ k. f k ∷ []))
  scattered-all {s} {now} h all_done =
      let items = each (n * 8) (λ k. f k ∷ []) in
      let size : length items ≡ n * 8 = length-ones (n * 8) f in
      ext_get_or 0 now (sets out at items) (h.long ∙ sym (length-sets out at items))
      (λ k lk.
      ⊎_elim
      (λ (inside : k + 1 - at ≡ 0). h.before k (omega arith) ∙ sym (sets-before items out at k (omega arith)))
      (λ (from : 0 < k + 1 - at).
      ⊎_elim
      (λ (z : at + n * 8 - k ≡ 0). h.behind k (omega arith) ∙ sym (sets_behind items out at k (omega arith)))
      (λ (l : 0 < at + n * 8 - k).
      let q = k - at in
      let is : at + q / 8 * 8 + q % 8 ≡ k = omega arith in
      let whole : q / 8 * 8 + q % 8 ≡ q = omega arith in
      let there : at + q ≡ k = omega arith in
      let li : q / 8 < n = omega arith in
      ap (λ (p : ℕ). get_or now p 0) (sym is)
      ∙ h.put (q / 8) (q % 8) li (omega arith) (all_done (q / 8) li)
      ∙ ap f whole
      ∙ sym (number_at (n * 8) f q (omega arith))
      ∙ sym (sets-in items out at q (omega arith) (omega arith))
      ∙ ap (λ (p : ℕ). get_or (sets out at items) p 0) there)
      (eq-zero-or-pos (at + n * 8 - k)))
      (eq-zero-or-pos (k + 1 - at)))
