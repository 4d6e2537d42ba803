-- The round trips of entries, in every mode that has them: the laws of fields and bytes, at the layouts of document 01.
-- Assumes nothing.
use mathlib.Core.Path.{◌≡◌, refl, sym, ap, ◌∙◌}
use mathlib.Core.Bool.{Bool, true, false}
use mathlib.Core.List.{List, [], ◌∷◌}
use mathlib.Core.Logic.{⊎_elim}
use Prim.Native.Nat.{ℕ, zero, suc, ◌^◌, ◌<◌, ◌≤◌}
use native.Mathlib.Nat.{eq-or-lt_of_le, le_of_suc-le-suc, lt_of_lt_of_le}
use native.Mathlib.Omega.{arith}
use lib.Dec.{T, eqb, eqb→eq}
use lib.ListN.{length, get_or, set}
use lib.Pow.{pow_pos, pow_mono}
use lib.Seq.{ext_get_or, get_or-set_other}
use Rattle.words.specs.Bytes.{bit, word_of, are_bytes}
use Rattle.words.specs.Fields.{split}
use Rattle.words.specs.Inner.{bits_of, bits_for, are_fields, all}
use Rattle.words.proofs.Fields.{Held, length-split, split-join, split-held, values-back, bytes_back, cleared, split-cleared}
use Rattle.words.proofs.Loops.{all-at}
use Rattle.mode.specs.Table.{row, pce-sprite}
use Rattle.mapentry.specs.Entry.{layout, values_of, entry_with, entry_word, entry_bytes, entry_in, entry_of, most_first, IsEntry}
use Rattle.mapentry.specs.declared.Mapentry.{Mapentry}
use Rattle.mapentry.proofs.Laws.{fitting, fits_all, Fitting, small}

-- the bits of each value, as the mode's row has them
abbrev limits : ℕ → List ℕ
limits m = (row m).tile ∷ (row m).palette ∷ (row m).flips ∷ (row m).flips ∷ (row m).priority ∷ []

module _ (m : ℕ) (h : m < 16) where
  pub are-fields : T (are_fields (layout m))
  unfolding layout
  are-fields = all-at 16 (λ k. are_fields (layout k)) tt m h

  -- the fields fill an entry's bytes: the unused bits are named too
  pub full : 2 ^ bits_of (layout m) ≡ 256 ^ (row m).entry
  unfolding row layout
  full = eqb→eq (2 ^ bits_of (layout m)) (256 ^ (row m).entry) (all-at 16 (λ k. eqb (2 ^ bits_of (layout k)) (256 ^ (row k).entry)) tt m h)

  widths : (i : ℕ) → i < 5 → bits_for i (layout m) ≡ get_or (limits m) i 0
  unfolding row layout
  widths i hi =
      eqb→eq (bits_for i (layout m)) (get_or (limits m) i 0)
      (all-at 5 (λ j. eqb (bits_for j (layout m)) (get_or (limits m) j 0)) (all-at 16 (λ k. all 5 (λ j. eqb (bits_for j (layout k)) (get_or (limits k) j 0))) tt m h) i hi)

  -- the values of an entry that fits
  five-held : (e : Mapentry) → Fitting m e → (i : ℕ) → i < 5 → get_or (values_of e) i 0 < 2 ^ get_or (limits m) i 0
  five-held e f zero lt = f.tile
  five-held e f (suc zero) lt = f.palette
  five-held e f (suc (suc zero)) lt = f.h
  five-held e f (suc (suc (suc zero))) lt = f.v
  five-held e f (suc (suc (suc (suc zero)))) lt = f.priority
  five-held e f (suc (suc (suc (suc (suc i))))) lt = omega arith

  held : (e : Mapentry) → Fitting m e → Held (layout m) (values_of e)
  unfolding Held
  held e f k lt =
      ⊎_elim (λ q. rw q (pow_pos (bits_for 5 (layout m)))) (λ l. rw (widths k l) (five-held e f k l)) (eq-or-lt_of_le (le_of_suc-le-suc lt))

  -- a bit is a bool
  bit-back : (b : Bool) → eqb (bit b) 1 ≡ b
  bit-back true = refl
  bit-back false = refl

  with_values : (e : Mapentry) → entry_with (values_of e) ≡ e
  with_values e = rw (bit-back e.flip_h, bit-back e.flip_v, bit-back e.priority)

  -- what was packed is read again
  pub entry-back : (e : Mapentry) → IsEntry m e → entry_of m (entry_bytes m e) ≡ e
  entry-back e i =
      ap entry_with (values-back (layout m) (row m).entry (most_first m) are-fields full (values_of e) refl (held e (fitting m e i.fits)))
      ∙ with_values e

  -- "bits not named are written 0"
  pub unused-zero : (e : Mapentry) → IsEntry m e → get_or (split (layout m) (entry_word m e)) 5 0 ≡ 0
  unused-zero e i =
      ap (λ (vs : List ℕ). get_or vs 5 0) (split-join (layout m) (values_of e) refl are-fields (held e (fitting m e i.fits)))

  -- "ignored in reading": a word is read as it is with its unused bits 0
  without-unused : (vs : List ℕ) → entry_with (set vs 5 0) ≡ entry_with vs
  without-unused vs =
      let same : (k : ℕ) → k < 5 → get_or (set vs 5 0) k 0 ≡ get_or vs k 0 = λ k lt. get_or-set_other vs 5 k 0 0 (λ e. omega arith) in
      rw (same 0 (omega arith), same 1 (omega arith), same 2 (omega arith), same 3 (omega arith), same 4 (omega arith))

  pub unused-ignored : (w : ℕ) → entry_in m (cleared (layout m) w) ≡ entry_in m w
  unused-ignored w = ap entry_with (split-cleared (layout m) w are-fields) ∙ without-unused (split (layout m) w)

  -- a value of at most one bit is a bool
  one_bit : (n : ℕ) → n < 2 → bit (eqb n 1) ≡ n
  one_bit zero l = refl
  one_bit (suc zero) l = refl
  one_bit (suc (suc n)) l = omega arith

  module _ (w : ℕ) where
    under : (i : ℕ) → i < 5 → get_or (split (layout m) w) i 0 < 2 ^ get_or (limits m) i 0
    unfolding Held
    under i lt = rw (widths i lt) at (split-held (layout m) w are-fields i (omega arith))

    below_two : (i : ℕ) → i < 5 → get_or (limits m) i 0 ≤ 1 → get_or (split (layout m) w) i 0 < 2
    below_two i lt few = lt_of_lt_of_le (under i lt) (pow_mono {j = 1} few)

    value-at : (i : ℕ) → i < 5 → get_or (values_of (entry_in m w)) i 0 ≡ get_or (split (layout m) w) i 0
    value-at zero l = refl
    value-at (suc zero) l = refl
    value-at (suc (suc zero)) l = one_bit _ (below_two 2 (omega arith) (small m h).flips)
    value-at (suc (suc (suc zero))) l = one_bit _ (below_two 3 (omega arith) (small m h).flips)
    value-at (suc (suc (suc (suc zero)))) l = one_bit _ (below_two 4 (omega arith) (small m h).priority)
    value-at (suc (suc (suc (suc (suc i))))) l = omega arith

    -- what is read is an entry of the mode
    fits-at : (i : ℕ) → i < 5 → get_or (values_of (entry_in m w)) i 0 < 2 ^ get_or (limits m) i 0
    fits-at i lt = rw (value-at i lt) (under i lt)

    pub read_fits : (m ≡ pce-sprite → ⊥) → IsEntry m (entry_in m w)
    read_fits map =
        record {
          mode = h;
          map = map;
          fits = fits_all m (entry_in m w) (record {
            tile = fits-at 0 (omega arith);
            palette = fits-at 1 (omega arith);
            h = fits-at 2 (omega arith);
            v = fits-at 3 (omega arith);
            priority = fits-at 4 (omega arith);
          });
        }

    values-read : get_or (split (layout m) w) 5 0 ≡ 0 → values_of (entry_in m w) ≡ split (layout m) w
    values-read unused =
        ext_get_or 0 (values_of (entry_in m w)) (split (layout m) w) (sym (length-split (layout m) w))
        (λ i lt. ⊎_elim (λ q. rw q (sym unused)) (λ l. value-at i l) (eq-or-lt_of_le (le_of_suc-le-suc lt)))

  -- what was read is packed again, where the unused bits are 0
  pub bytes-return : (bs : List ℕ) → T (are_bytes bs) → length bs ≡ (row m).entry → get_or (split (layout m) (word_of (most_first m) bs)) 5 0 ≡ 0 → entry_bytes m (entry_of m bs) ≡ bs
  bytes-return bs t size unused =
      rw (values-read (word_of (most_first m) bs) unused) (bytes_back (layout m) (row m).entry (most_first m) are-fields full bs t size)
