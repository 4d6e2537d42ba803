-- The places that are computed from the fields of document 01 are those of its words, mode by mode: the word that the code sums, and the
-- values that it finds.
-- Assumes nothing.
use mathlib.Core.Path.{◌≡◌, refl, sym, ◌∙◌}
use mathlib.Core.Bool.{Bool, true, false}
use mathlib.Core.List.{List}
use mathlib.Core.Logic.{⊎_elim}
use Prim.Native.Nat.{ℕ, zero, suc, ◌+◌, ◌*◌, ◌/◌, ◌%◌, ◌^◌, ◌<◌, ◌≤◌}
use native.Mathlib.Nat.{div-one, mul_comm}
use native.Mathlib.Omega.{arith}
use lib.Dec.{T, leb, eqb, leb→le, eqb→eq}
use lib.ListN.{length, get_or}
use Rattle.std.proofs.lemmas.Bool.{cases_lt}
use Rattle.std.proofs.lemmas.List.{get_or_past}
use borrow.Author.Tests.{le-ltb, ne_eqb}
use Rattle.words.specs.Bytes.{bit}
use Rattle.words.specs.Fields.{Field, split}
use Rattle.words.specs.Inner.{bits_for, are_fields, start_of, run_of, start_again, all}
use Rattle.words.proofs.Answers.{last-given}
use Rattle.words.proofs.Loops.{all-at}
use Rattle.words.proofs.Starts.{once, once_again, bits_again, once-found, run-found}
use Rattle.mode.specs.Table.{row, rows, none, pce-sprite}
use Rattle.mode.proofs.ByMode.{every-mode}
use Rattle.mapentry.specs.Entry.{layout, entry_word, entry_in, read_says}
use Rattle.mapentry.specs.Inner.{places_in, Near, read_at, size_says}
use Rattle.mapentry.specs.declared.Mapentry.{Mapentry}
use Rattle.mapentry.specs.declared.Places.{Places}
use Rattle.mapentry.proofs.Laws.{Fitting}

-- a test that is computed of every mode's fields
module _ (m : ℕ) (h : m < 16) where
  tested : (f : List Field → Bool) → T (all 16 (λ k. f (layout k))) → T (f (layout m))
  tested f t = all-at 16 (λ k. f (layout k)) t m h

  -- no place is above the word
  under : (n : ℕ) (f : Places → ℕ) → T (all 16 (λ k. leb (f (places_in (layout k))) n)) → f (places_in (layout m)) ≤ n
  under n f t = leb→le (f (places_in (layout m))) n (tested (λ fs. leb (f (places_in fs)) n) t)

  pub near : Near (places_in (layout m))
  unfolding layout places_in
  near =
      record {
        low = under 12 (λ p. p.low) tt;
        high = under 16 (λ p. p.high) tt;
        palette = under 16 (λ p. p.palette) tt;
        bits = under 4 (λ p. p.bits) tt;
        h = under 16 (λ p. p.h) tt;
        v = under 16 (λ p. p.v) tt;
        priority = under 16 (λ p. p.priority) tt;
      }

-- the sum that the code makes
abbrev pub summed : Places → Mapentry → ℕ
summed p e =
    e.tile % 2 ^ p.low + e.tile / 2 ^ p.low * 2 ^ p.high + e.palette * 2 ^ p.palette + bit e.flip_h * 2 ^ p.h
    + bit e.flip_v * 2 ^ p.v + bit e.priority * 2 ^ p.priority

abbrev Summed : ℕ → Type 0
Summed m = (e : Mapentry) → Fitting m e → summed (places_in (layout m)) e ≡ entry_word m e

pub summed-right : (m : ℕ) → m < 16 → Summed m
unfolding row layout places_in
summed-right = every-mode Summed (omega arith)

-- the values that the code finds: a bit where the fields have one, and 0 at 16, where they have none
abbrev one_or_none : ℕ → ℕ → Bool
one_or_none start zero = eqb start 16
one_or_none start (suc zero) = true
one_or_none start (suc (suc n)) = false

bit_found : (w : ℕ) → w < 65536 → (start bits : ℕ) → T (one_or_none start bits) → w / 2 ^ start % 2 ≡ w / 2 ^ start % 2 ^ bits
bit_found w small start zero t = rw (eqb→eq start 16 t) (omega arith)
bit_found w small start (suc zero) t = refl
bit_found w small start (suc (suc n)) t = absurd t

module _ (m : ℕ) (h : m < 16) (w : ℕ) (small : w < 65536) where
  fields : T (are_fields (layout m))
  unfolding layout
  fields = tested m h are_fields tt

  once-at : (k : ℕ) → k < 6 → T (all 16 (λ i. once k (layout i))) → w / 2 ^ start_of 0 k (layout m) % 2 ^ bits_for k (layout m) ≡ get_or (split (layout m) w) k 0
  once-at k lt t = sym (rw div-one at (once-found k lt (layout m) fields 0 w (tested m h (once k) t)))

  flag_at : (k : ℕ) → k < 6 → T (all 16 (λ i. once k (layout i))) → T (all 16 (λ i. one_or_none (start_of 0 k (layout i)) (bits_for k (layout i))))
      → w / 2 ^ start_of 0 k (layout m) % 2 ≡ get_or (split (layout m) w) k 0
  flag_at k lt t o =
      bit_found w small (start_of 0 k (layout m)) (bits_for k (layout m)) (tested m h (λ fs. one_or_none (start_of 0 k fs) (bits_for k fs)) o) ∙ once-at k lt t

  tile-at : w % 2 ^ run_of 0 (layout m) + w / 2 ^ start_again 0 0 (layout m) % 2 * 2 ^ run_of 0 (layout m) ≡ get_or (split (layout m) w) 0 0
  unfolding layout
  tile-at =
      rw (bit_found w small (start_again 0 0 (layout m)) (bits_again 0 (layout m)) (tested m h (λ fs. one_or_none (start_again 0 0 fs) (bits_again 0 fs)) tt), mul_comm)
      (sym (rw div-one at (run-found 0 (omega arith) (layout m) fields 0 w (tested m h (once_again 0) tt))))

  pub read_right : read_at (places_in (layout m)) w ≡ entry_in m w
  unfolding layout places_in
  read_right = rw (tile-at, once-at 1 (omega arith) tt, flag_at 2 (omega arith) tt tt, flag_at 3 (omega arith) tt tt, flag_at 4 (omega arith) tt tt)

-- what has entries is a mode, and not pce_sprite
pub has-entries : (m : ℕ) → 0 < (row m).entry → (m < 16) × (m ≡ pce-sprite → ⊥)
unfolding row
has-entries m some = (
  ⊎_elim (λ l. l) (λ g. let no = rw (get_or_past rows m none g) at some in omega arith) (cases_lt m 16),
  λ e. let no = rw e at some in omega arith,
)

-- a mode with entries checks their size alone
pub size-says : (m : ℕ) → m < 16 → (m ≡ pce-sprite → ⊥) → (bytes : List ℕ) → size_says (row m).entry bytes ≡ read_says m (length bytes)
unfolding read_says
size-says m h n bytes = rw (le-ltb 15 m (omega arith), ne_eqb m pce-sprite n) (last-given (size_says (row m).entry bytes))
