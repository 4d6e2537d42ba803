-- The fields' numbers stand "where 10 stood": with 10 for each of them a call answers the lowest number that applies, and all but the number is as
-- it was.
-- Assumes nothing.
use mathlib.Core.Path.{◌≡◌, refl, sym, ap, ◌∙◌}
use mathlib.Core.Bool.{Bool, true, false, cond}
use mathlib.Core.List.{List, [], ◌∷◌, ◌++◌, map}
use mathlib.Core.Logic.{◌⊎◌, inl, inr}
use Prim.Native.Nat.{ℕ, zero, suc}
use native.Mathlib.Nat.{suc-ne-zero}
use lib.Dec.{ltb, eqb}
use lib.ListN.{length}
use Rattle.words.specs.Answers.{◌when◌, first_applying, lowest, unless, numbered, overwrite, Wrote}
use Rattle.words.specs.declared.Written.{Written}
use Rattle.words.proofs.Order.{first-lowest}
use Rattle.std.specs.Prelude.{Option, Some, None}
use Rattle.mode.specs.Table.{row, one_of, pce-sprite}
use Rattle.mapentry.specs.Entry.{misfit_of, misfit_says, entry_checks, entry_says, pack_checks, pack_says, index_size, index_checks, index_says}
use Rattle.mapentry.specs.declared.Mapentry.{Mapentry}
use Rattle.mapentry.specs.declared.Misfit.{Misfit}
use Rattle.mapentry.specs.declared.Misfit.TheVariants.{Tile, Palette, Flip, Priority}
use Rattle.mapentry.proofs.Lowest.{numbers}

-- Document 01's rule: "an entry field its bits cannot hold, a flip or priority where there is none" is 10, whichever field it is. Of a number
-- that is answered, the one that stood in its place.
abbrev pub stood : ℕ → ℕ
stood n = cond (one_of n numbers) 10 n

-- nothing was done then that is not done now, nor the other way round
some-stood : {A : Type 0} (b : Bool) (n : ℕ) (done refused : A) → unless (cond b 10 (suc n)) done refused ≡ refused
some-stood true n done refused = refl
some-stood false n done refused = refl

pub stood-unless : {A : Type 0} (n : ℕ) (done refused : A) → unless (stood n) done refused ≡ unless n done refused
stood-unless zero done refused = refl
stood-unless (suc n) done refused = some-stood (one_of (suc n) numbers) n done refused

pub stood-done : (n : ℕ) → (stood n ≡ 0 → n ≡ 0) × (n ≡ 0 → stood n ≡ 0)
stood-done n = (back n, ap stood)
  where
    never : (b : Bool) (k : ℕ) → cond b 10 (suc k) ≡ 0 → ⊥
    never true k e = suc-ne-zero 9 e
    never false k e = suc-ne-zero k e

    back : (k : ℕ) → stood k ≡ 0 → k ≡ 0
    back zero e = refl
    back (suc k) e = absurd (never (one_of (suc k) numbers) k e)

-- of a list of checks
some_first : (b : Bool) (n : ℕ) (ns : List ℕ) → cond b 10 (suc n) ≡ first_applying (cond b 10 (suc n) ∷ ns)
some_first true n ns = refl
some_first false n ns = refl

pub stood-first : (ns : List ℕ) → stood (first_applying ns) ≡ first_applying (map stood ns)
stood-first [] = refl
stood-first (zero ∷ ns) = stood-first ns
stood-first (suc n ∷ ns) = some_first (one_of (suc n) numbers) n (map stood ns)

-- each check gives the number that stood, or does not apply
pub stood-when : (k : ℕ) (b : Bool) → stood k ≡ k → (stood (k when b) ≡ 0) ⊎ (stood (k when b) ≡ k)
stood-when k true e = inr e
stood-when k false e = inl refl

pub stood-misfit : (f : Option Misfit) → (stood (misfit_says f) ≡ 0) ⊎ (stood (misfit_says f) ≡ 10)
stood-misfit (Some Tile) = inr refl
stood-misfit (Some Palette) = inr refl
stood-misfit (Some Flip) = inr refl
stood-misfit (Some Priority) = inr refl
stood-misfit None = inl refl

-- an entry's checks, and those that end with the space
module _ (m : ℕ) (e : Mapentry) where
  known : (stood (1 when ltb 15 m) ≡ 0) ⊎ (stood (1 when ltb 15 m) ≡ 1)
  known = stood-when 1 (ltb 15 m) refl

  mapped : (stood (2 when eqb m pce-sprite) ≡ 0) ⊎ (stood (2 when eqb m pce-sprite) ≡ 2)
  mapped = stood-when 2 (eqb m pce-sprite) refl

  pub entry-stood : stood (entry_says m e) ≡ lowest (map stood (entry_checks m e))
  unfolding entry_says
  entry-stood =
      stood-first (entry_checks m e)
      ∙ first-lowest (1 ∷ 2 ∷ 10 ∷ []) (map stood (entry_checks m e)) tt (known, (mapped, (stood-misfit (misfit_of m e), tt)))

  abbrev sized : ℕ → ℕ → List ℕ
  sized space size = entry_checks m e ++ 11 when ltb space size ∷ []

  sized-stood : (space size : ℕ) → stood (first_applying (sized space size)) ≡ lowest (map stood (sized space size))
  sized-stood space size =
      let short = stood-when 11 (ltb space size) refl in
      stood-first (sized space size)
      ∙ first-lowest (1 ∷ 2 ∷ 10 ∷ 11 ∷ []) (map stood (sized space size)) tt (known, (mapped, (stood-misfit (misfit_of m e), (short, tt))))

  pub pack-stood : (space : ℕ) → stood (pack_says m e space) ≡ lowest (map stood (pack_checks m e space))
  unfolding pack_says
  pack-stood space = sized-stood space (row m).entry

  pub index-stood : (space : ℕ) → stood (index_says m e space) ≡ lowest (map stood (index_checks m e space))
  unfolding index_says
  index-stood space = sized-stood space (index_size m)

-- the answers and the lent bytes that stood: all but the number is the same
pub wrote-stood : {n : ℕ} {bytes before : List ℕ} {r : Written} {after : List ℕ} → Wrote n bytes before r after
    → Wrote (stood n) bytes before (record { refusal = stood r.refusal; written = r.written }) after
wrote-stood {n = n} {bytes = bytes} {before = before} w =
    record {
      answer = ap (λ (k : Written). record { refusal = stood k.refusal; written = k.written }) w.answer
          ∙ ap (λ (k : ℕ). record { refusal = stood n; written = k }) (sym (stood-unless n (length bytes) 0));
      lent = w.lent ∙ sym (stood-unless n (overwrite before bytes) before);
    }

pub numbered-stood : (n value : ℕ) → numbered (stood n) value ≡ record { refusal = stood n; value = (numbered n value).value }
numbered-stood n value = ap (λ (k : ℕ). record { refusal = stood n; value = k }) (stood-unless n value 0)
