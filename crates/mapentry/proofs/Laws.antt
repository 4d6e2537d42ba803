-- The rules of the tables that the code of entries leans on, and what an entry that passes the checks is known to be.
-- Assumes nothing.
use mathlib.Core.Path.{◌≡◌, refl, sym, ap, ◌∙◌}
use mathlib.Core.Bool.{Bool, true, false, not, cond, ◌&&◌}
use mathlib.Core.List.{[], ◌∷◌, ◌++◌}
use Rattle.std.specs.Prelude.{Option, Some, None}
use mathlib.Core.Logic.{⊎_elim}
use Prim.Native.Nat.{ℕ, zero, suc, ◌^◌, ◌<◌, ◌≤◌}
use native.Mathlib.Nat.{suc-ne-zero, lt_of_lt_of_le}
use native.Mathlib.Omega.{arith}
use lib.Dec.{ltb, leb, eqb, leb→le}
use lib.Pow.{pow_mono}
use Rattle.std.proofs.lemmas.Bool.{cases_lt}
use Rattle.std.proofs.lemmas.List.{get_or_past}
use mir.Val.{bool_byte}
use borrow.Author.Tests.{ltb-true, ltb-false, eqb-false, lt-ltb}
use Rattle.words.specs.Answers.{◌when◌, first_applying}
use Rattle.words.specs.Bytes.{bit}
use Rattle.words.specs.Inner.{bits_of}
use Rattle.words.proofs.Answers.{all-passed, not-given, before-space, no-space, space-left}
use Rattle.words.proofs.Fields.{join-lt}
use Rattle.words.proofs.Loops.{all-at}
use Rattle.words.proofs.Order.{first-append}
use Rattle.mode.specs.Table.{row, rows, none, gbc, pce-sprite}
use Rattle.mode.proofs.ByMode.{every-mode}
use Rattle.mapentry.specs.Entry.{layout, values_of, entry_word, misfit_of, misfit_says, entry_checks, entry_says, entry_answer, blank, entered, index_size, IsEntry, without_tile}
use Rattle.mapentry.specs.declared.Mapentry.{Mapentry}
use Rattle.mapentry.specs.declared.Misfit.{Misfit}
use Rattle.mapentry.specs.declared.Misfit.TheVariants.{Tile, Palette, Flip, Priority}

-- few bits, and one or two bytes
pub record Small (m : ℕ) : Type 0 where
  pub tile : (row m).tile ≤ 12
  pub palette : (row m).palette ≤ 4
  pub flips : (row m).flips ≤ 1
  pub priority : (row m).priority ≤ 1
  pub entry : (row m).entry ≤ 2

pub small : (m : ℕ) → m < 16 → Small m
unfolding row
small m h =
    record {
      tile = leb→le (row m).tile 12 (all-at 16 (λ k. leb (row k).tile 12) tt m h);
      palette = leb→le (row m).palette 4 (all-at 16 (λ k. leb (row k).palette 4) tt m h);
      flips = leb→le (row m).flips 1 (all-at 16 (λ k. leb (row k).flips 1) tt m h);
      priority = leb→le (row m).priority 1 (all-at 16 (λ k. leb (row k).priority 1) tt m h);
      entry = leb→le (row m).entry 2 (all-at 16 (λ k. leb (row k).entry 2) tt m h);
    }

-- no number's row has more than two, a mode's or not
pub entry-few : (m : ℕ) → (row m).entry ≤ 2
unfolding row
entry-few m =
    ⊎_elim (λ l. (small m l).entry) (λ g. rw (get_or_past rows m none g) (omega arith)) (cases_lt m 16)

pub some_byte : (m : ℕ) → m < 16 → (m ≡ pce-sprite → ⊥) → 0 < (row m).entry
unfolding row
some_byte = every-mode (λ (m : ℕ). (m ≡ pce-sprite → ⊥) → 0 < (row m).entry) (omega arith)

one-or-two : (b : Bool) → (0 < cond b 2 1) × (cond b 2 1 ≤ 2)
one-or-two true = omega arith
one-or-two false = omega arith

pub index-small : (m : ℕ) → (0 < index_size m) × (index_size m ≤ 2)
index-small m = one-or-two (ltb 8 (row m).tile && not (eqb m gbc))

-- ---- an entry that passes the checks

pub no-misfit : (f : Option Misfit) → misfit_says f ≡ 0 → f ≡ None
no-misfit (Some Tile) e = cc
no-misfit (Some Palette) e = cc
no-misfit (Some Flip) e = cc
no-misfit (Some Priority) e = cc
no-misfit None e = refl

pub is-entry : (m : ℕ) (e : Mapentry) → entry_says m e ≡ 0 → IsEntry m e
unfolding entry_says
is-entry m e z =
    let passed = all-passed (entry_checks m e) z in
    record {
      mode = omega (arith, ltb-false 15 m (not-given 0 (ltb 15 m) (passed 0)));
      map = eqb-false m pce-sprite (not-given 1 (eqb m pce-sprite) (passed 1));
      fits = no-misfit (misfit_of m e) (passed 2);
    }

-- checks that end with the space: refused before, for the space, and not at all
module _ (m : ℕ) (e : Mapentry) (space size : ℕ) where
  ends : first_applying (entry_checks m e ++ 11 when ltb space size ∷ []) ≡ first_applying (entry_says m e ∷ 11 when ltb space size ∷ [])
  unfolding entry_says
  ends = first-append (entry_checks m e) (11 when ltb space size ∷ [])

  pub entry_first : (n : ℕ) → n ≡ entry_says m e → (n ≡ 0 → ⊥) → n ≡ first_applying (entry_checks m e ++ 11 when ltb space size ∷ [])
  entry_first n is given = before-space n space size is given ∙ sym ends

  pub entry-no-space : entry_says m e ≡ 0 → space < size → 11 ≡ first_applying (entry_checks m e ++ 11 when ltb space size ∷ [])
  entry-no-space z short = no-space (entry_says m e) space size z short ∙ sym ends

  pub entry-space : entry_says m e ≡ 0 → size ≤ space → first_applying (entry_checks m e ++ 11 when ltb space size ∷ []) ≡ 0
  entry-space z fits = ends ∙ space-left (entry_says m e) space size z fits

-- each field is below 2 to its bits
pub record Fitting (m : ℕ) (e : Mapentry) : Type 0 where
  pub tile : e.tile < 2 ^ (row m).tile
  pub palette : e.palette < 2 ^ (row m).palette
  pub h : bit e.flip_h < 2 ^ (row m).flips
  pub v : bit e.flip_v < 2 ^ (row m).flips
  pub priority : bit e.priority < 2 ^ (row m).priority

passes : (b : Bool) (f : Misfit) (g : Option Misfit) → cond (not b) (Some f) g ≡ None → (b ≡ true) × (g ≡ None)
passes true f g e = (refl, e)
passes false f g e = absurd (cc)

pub fitting : (m : ℕ) (e : Mapentry) → misfit_of m e ≡ None → Fitting m e
fitting m e z =
    let a = passes (ltb e.tile (2 ^ (row m).tile)) Tile _ z in
    let b = passes (ltb e.palette (2 ^ (row m).palette)) Palette _ a.1 in
    let c = passes (ltb (bit e.flip_h) (2 ^ (row m).flips)) Flip _ b.1 in
    let d = passes (ltb (bit e.flip_v) (2 ^ (row m).flips)) Flip _ c.1 in
    let f = passes (ltb (bit e.priority) (2 ^ (row m).priority)) Priority _ d.1 in
    record {
      tile = ltb-true e.tile (2 ^ (row m).tile) a.0;
      palette = ltb-true e.palette (2 ^ (row m).palette) b.0;
      h = ltb-true (bit e.flip_h) (2 ^ (row m).flips) c.0;
      v = ltb-true (bit e.flip_v) (2 ^ (row m).flips) d.0;
      priority = ltb-true (bit e.priority) (2 ^ (row m).priority) f.0;
    }

pub fits_all : (m : ℕ) (e : Mapentry) → Fitting m e → misfit_of m e ≡ None
fits_all m e f =
    rw (lt-ltb e.tile (2 ^ (row m).tile) f.tile, lt-ltb e.palette (2 ^ (row m).palette) f.palette, lt-ltb (bit e.flip_h) (2 ^ (row m).flips) f.h, lt-ltb (bit e.flip_v) (2 ^ (row m).flips) f.v, lt-ltb (bit e.priority) (2 ^ (row m).priority) f.priority)

some-tile : (b : Bool) (t n : ℕ) → t < n → cond b t 0 < n
some-tile true t n h = h
some-tile false t n h = omega arith

-- without its tile index an entry still fits
pub without-tile : (m : ℕ) (e : Mapentry) → IsEntry m e → IsEntry m (without_tile m e)
without-tile m e i =
    let f = fitting m e i.fits in
    record {
      mode = i.mode;
      map = i.map;
      fits = fits_all m (without_tile m e) (record {
        tile = some-tile (eqb m gbc) e.tile (2 ^ (row m).tile) f.tile;
        palette = f.palette;
        h = f.h;
        v = f.v;
        priority = f.priority;
      });
    }

-- twelve bits hold each of them
pub tile-small : (m : ℕ) (e : Mapentry) → IsEntry m e → e.tile < 4096
tile-small m e i = lt_of_lt_of_le (fitting m e i.fits).tile (pow_mono {j = 12} (small m i.mode).tile)

pub palette-small : (m : ℕ) (e : Mapentry) → IsEntry m e → e.palette < 16
palette-small m e i = lt_of_lt_of_le (fitting m e i.fits).palette (pow_mono {j = 4} (small m i.mode).palette)

-- a word of entries has at most sixteen bits
bits_small : (m : ℕ) → m < 16 → bits_of (layout m) ≤ 16
unfolding layout
bits_small m h = leb→le (bits_of (layout m)) 16 (all-at 16 (λ k. leb (bits_of (layout k)) 16) tt m h)

pub word_small : (m : ℕ) → m < 16 → (e : Mapentry) → entry_word m e < 65536
word_small m h e = lt_of_lt_of_le (join-lt (layout m) (values_of e)) (pow_mono {j = 16} (bits_small m h))

-- a reading is refused, with all else 0, or has the entry's fields
pub refused-entry : (n : ℕ) {k : ℕ} (e : Mapentry) → suc n ≡ k → entry_answer (suc n) blank ≡ entered k e
refused-entry n e p = ap (λ (i : ℕ). entered i e) p

pub done-entry : {k : ℕ} (r e : Mapentry) → k ≡ 0 → r ≡ e → entry_answer 0 r ≡ entered k e
done-entry {k = zero} r e z p = ap (λ (x : Mapentry). entry_answer 0 x) p
done-entry {k = suc k} r e z p = absurd (suc-ne-zero k z)

-- a flag as the bit that the code makes of it
pub bit-byte : (b : Bool) → bool_byte b ≡ bit b
bit-byte true = refl
bit-byte false = refl
