-- Where a value stands in a word made of fields: a value that has one field, and one that begins the word and may have a field more.
-- Assumes nothing.
use mathlib.Core.Path.{◌≡◌, refl, sym, ◌∙◌}
use mathlib.Core.Bool.{Bool, true, false, cond}
use mathlib.Core.List.{List, [], ◌∷◌}
use Prim.Native.Nat.{ℕ, ◌+◌, ◌*◌, ◌/◌, ◌%◌, ◌^◌, ◌<◌}
use native.Mathlib.Nat.{add-zero, zero-add, add_comm, mul-zero, mod-one}
use native.Mathlib.Omega.{arith}
use lib.Dec.{T, eqb, eqb→eq}
use lib.ListN.{length, get_or}
use lib.Pow.{shr-shr, mod-pow-add, pow-add}
use lib.Seq.{get_or-set_same, get_or-set_other}
use borrow.Author.Tests.{eqb-true, eqb-false}
use Rattle.words.specs.Fields.{Field, split}
use Rattle.words.specs.Inner.{bits_for, are_fields, start_of, run_of, start_again}
use Rattle.words.proofs.Fields.{Held, length-split, split-held, other-fields}

-- value k has one field at most; and one at most after those that it begins with
abbrev pub once : ℕ → List Field → Bool
once k [] = true
once k (f ∷ fs) = cond (eqb k f.value) (eqb (bits_for k fs) 0) (once k fs)

abbrev pub once_again : ℕ → List Field → Bool
once_again k [] = true
once_again k (f ∷ fs) = cond (eqb k f.value) (once_again k fs) (once k fs)

-- the bits of value k after those that the fields begin with
abbrev pub bits_again : ℕ → List Field → ℕ
bits_again k [] = 0
bits_again k (f ∷ fs) = cond (eqb k f.value) (bits_again k fs) (bits_for k fs)

regroup : (p q a c y : ℕ) → a + p * (c + q * y) ≡ c * p + a + q * p * y
regroup p q a c y = omega arith

module _ (k : ℕ) (lt : k < 6) where
  -- a value without bits is 0
  absent : (fs : List Field) → T (are_fields fs) → bits_for k fs ≡ 0 → (w : ℕ) → get_or (split fs w) k 0 ≡ 0
  unfolding Held
  absent fs t none w =
      let below : get_or (split fs w) k 0 < 1 = rw none at (split-held fs w t k lt) in
      omega arith

  -- the first field has it, or leaves it to the others
  here : (f : Field) (fs : List Field) (w : ℕ) → eqb k f.value ≡ true → get_or (split (f ∷ fs) w) k 0 ≡ w % 2 ^ f.bits + 2 ^ f.bits * get_or (split fs (w / 2 ^ f.bits)) k 0
  here f fs w e =
      let r = split fs (w / 2 ^ f.bits) in
      let is : k ≡ f.value = eqb-true k f.value e in
      let long : k < length r = omega (arith, length-split fs (w / 2 ^ f.bits)) in
      rw (← is) (get_or-set_same r k (w % 2 ^ f.bits + 2 ^ f.bits * get_or r k 0) 0 long)

  there : (f : Field) (fs : List Field) (w : ℕ) → eqb k f.value ≡ false → get_or (split (f ∷ fs) w) k 0 ≡ get_or (split fs (w / 2 ^ f.bits)) k 0
  there f fs w e = get_or-set_other (split fs (w / 2 ^ f.bits)) f.value k _ 0 (eqb-false k f.value e)

  -- a value that has one field at most
  once-case : (f : Field) (fs : List Field) → T (are_fields (f ∷ fs)) → (b : Bool) → eqb k f.value ≡ b → T (cond b (eqb (bits_for k fs) 0) (once k fs))
      → ((from w : ℕ) → T (once k fs) → get_or (split fs (w / 2 ^ from)) k 0 ≡ w / 2 ^ start_of from k fs % 2 ^ bits_for k fs)
      → (from w : ℕ) → get_or (split (f ∷ fs) (w / 2 ^ from)) k 0 ≡ w / 2 ^ start_of from k (f ∷ fs) % 2 ^ bits_for k (f ∷ fs)
  once-case f fs t true e o more from w =
      let none : bits_for k fs ≡ 0 = eqb→eq (bits_for k fs) 0 o in
      rw (here f fs (w / 2 ^ from) e, absent fs (other-fields f fs t) none (w / 2 ^ from / 2 ^ f.bits), e, none, mul-zero, add-zero, add-zero)
  once-case f fs t false e o more from w =
      rw (there f fs (w / 2 ^ from) e, shr-shr w from f.bits, e, zero-add) (more (from + f.bits) w o)

  pub once-found : (fs : List Field) → T (are_fields fs) → (from w : ℕ) → T (once k fs) → get_or (split fs (w / 2 ^ from)) k 0 ≡ w / 2 ^ start_of from k fs % 2 ^ bits_for k fs
  once-found [] t from w o = absent [] t refl (w / 2 ^ from) ∙ sym (mod-one (w / 65536))
  once-found (f ∷ fs) t from w o = once-case f fs t (eqb k f.value) refl o (once-found fs (other-fields f fs t)) from w

  -- a value that begins the word, and may have a field more
  abbrev Run : List Field → ℕ → ℕ → Type 0
  Run fs from w =
      get_or (split fs (w / 2 ^ from)) k 0 ≡ w / 2 ^ from % 2 ^ run_of k fs + 2 ^ run_of k fs * (w / 2 ^ start_again from k fs % 2 ^ bits_again k fs)

  run-case : (f : Field) (fs : List Field) → T (are_fields (f ∷ fs)) → (b : Bool) → eqb k f.value ≡ b → T (cond b (once_again k fs) (once k fs))
      → ((from w : ℕ) → T (once_again k fs) → Run fs from w) → (from w : ℕ) → Run (f ∷ fs) from w
  run-case f fs t true e o more from w =
      let x = w / 2 ^ from in
      let again = w / 2 ^ start_again (from + f.bits) k fs % 2 ^ bits_again k fs in
      rw (here f fs x e, shr-shr w from f.bits, more (from + f.bits) w o, e, add_comm f.bits (run_of k fs), mod-pow-add x (run_of k fs) f.bits, pow-add 2 (run_of k fs) f.bits, shr-shr w from f.bits)
      (regroup (2 ^ f.bits) (2 ^ run_of k fs) (x % 2 ^ f.bits) (w / 2 ^ (from + f.bits) % 2 ^ run_of k fs) again)
  run-case f fs t false e o more from w =
      let found = once-found fs (other-fields f fs t) (from + f.bits) w o in
      rw (there f fs (w / 2 ^ from) e, shr-shr w from f.bits, e) (omega (arith, found, mod-one (w / 2 ^ from)))

  pub run-found : (fs : List Field) → T (are_fields fs) → (from w : ℕ) → T (once_again k fs) → Run fs from w
  run-found [] t from w o = absent [] t refl (w / 2 ^ from) ∙ omega arith
  run-found (f ∷ fs) t from w o = run-case f fs t (eqb k f.value) refl o (run-found fs (other-fields f fs t)) from w
