-- The laws of a tile's key: no allowed flip changes it, so tiles that match have one key; and the loop that makes it.
-- Assumes nothing.
use mathlib.Core.Path.{◌≡◌, refl, sym, ap, ◌∙◌}
use mathlib.Core.Bool.{Bool, true, false, xor}
use mathlib.Core.List.{List}
use Prim.Native.Nat.{ℕ, ◌+◌, ◌*◌, ◌%◌, ◌<◌}
use native.Mathlib.Numerals.{add-one}
use native.Mathlib.Omega.{arith}
use Rattle.flip.specs.Flips.{flip, flipped}
use Rattle.flip.specs.Matching.{match_flip, is_under, matches}
use Rattle.flip.specs.declared.Flip.{Flip}
use Rattle.std.specs.Prelude.{Option, Some, None}
use Rattle.flip.proofs.Group.{flipped-flipped}
use Rattle.flip.proofs.Equivalence.{Allowed, not-both, matches-true}
use Rattle.index.specs.InnerKeys.{word, hash, mix, pair, key}

-- ---- no allowed flip changes the key

module _ (t : List ℕ) where
  abbrev hashed : Bool → Bool → ℕ
  hashed h v = mix (hash (flipped (flip h v) 8 8 t) 16)

  abbrev summed : ℕ → ℕ → ℕ → ℕ → ℕ
  summed a b c d = (a + b + (c + d)) % 4294967296

  turned : (h v : Bool) →
      summed (hashed (xor h false) (xor v false)) (hashed (xor h true) (xor v false)) (hashed (xor h false) (xor v true)) (hashed (xor h true) (xor v true))
      ≡ summed (hashed false false) (hashed true false) (hashed false true) (hashed true true)
  unfolding xor
  turned false false = refl
  turned true false = ap (λ (x : ℕ). x % 4294967296) (omega arith)
  turned false true = ap (λ (x : ℕ). x % 4294967296) (omega arith)
  turned true true = ap (λ (x : ℕ). x % 4294967296) (omega arith)

  kept : (h v : Bool) → h ≡ false → v ≡ false → hashed (xor h false) (xor v false) + hashed (xor h true) (xor v false) ≡ hashed false false + hashed true false
  unfolding xor
  kept false false p q = refl
  kept true v p q = not-both (sym p)
  kept false true p q = not-both (sym q)

  module _ (g : Flip) where
    each : (f : Flip) → flipped f 8 8 (flipped g 8 8 t) ≡ flipped (flip (xor g.h f.h) (xor g.v f.v)) 8 8 t
    each f = flipped-flipped 8 8 t (omega arith) f g

    pub key-flipped : (on : Bool) → Allowed on g → key on (flipped g 8 8 t) ≡ key on t
    unfolding key pair
    key-flipped true p = rw (each (flip false false), each (flip true false), each (flip false true), each (flip true true)) (turned g.h g.v)
    key-flipped false p = rw (each (flip false false), each (flip true false)) (ap (λ (x : ℕ). x % 4294967296) (kept g.h g.v p.0 p.1))

module _ (on : Bool) (a t : List ℕ) where
  pub matches-key : matches on 8 8 a t ≡ true → key on a ≡ key on t
  matches-key e = let m = matches-true on 8 8 a t e in sym (key-flipped a m.0 on m.1.0) ∙ ap (key on) m.1.1

  never : (m : Option Flip) → (is_under m ≡ true → ⊥) → m ≡ None
  never (Some f) h = absurd (h refl)
  never None h = refl

  -- tiles with two keys do not match
  pub keys-differ : (key on a ≡ key on t → ⊥) → match_flip on 8 8 a t ≡ None
  keys-differ d = never (match_flip on 8 8 a t) (λ e. d (matches-key e))

-- ---- the loop that makes a key

pub record Hashing (t : List ℕ) (v : Bool) (y a b : ℕ) : Type 0 where
  pub plain : a ≡ hash (flipped (flip false v) 8 8 t) (2 * y)
  pub across : b ≡ hash (flipped (flip true v) 8 8 t) (2 * y)
  pub a_small : a < 4294967296
  pub b_small : b < 4294967296

pub hash-none : (t : List ℕ) → 0 ≡ hash t 0
unfolding hash
hash-none t = refl

hash-more : (t : List ℕ) (n : ℕ) {a p r : ℕ} → a ≡ hash t n → p ≡ word t n → r ≡ (a * 10368889 + p) % 4294967296 → r ≡ hash t (n + 1)
unfolding hash
hash-more t n {a} {p} e f g =
    g ∙ ap (λ (x : ℕ). (x * 10368889 + p) % 4294967296) e
    ∙ ap (λ (x : ℕ). (hash t n * 10368889 + x) % 4294967296) f
    ∙ ap (hash t) (sym (add-one n))

pub row_more : (t : List ℕ) (y : ℕ) {a p q l r : ℕ} → a ≡ hash t (2 * y) → p ≡ word t (2 * y) → l ≡ (a * 10368889 + p) % 4294967296
    → q ≡ word t (2 * y + 1) → r ≡ (l * 10368889 + q) % 4294967296 → r ≡ hash t (2 * (y + 1))
row_more t y e f g h i =
    hash-more t (2 * y + 1) (hash-more t (2 * y) e f g) h i ∙ ap (hash t) (let s : 2 * y + 1 + 1 ≡ 2 * (y + 1) = omega arith in s)

pub pair_made : {t : List ℕ} {v : Bool} {y a b p q : ℕ} → Hashing t v y a b → y ≡ 8 → p ≡ mix a → q ≡ mix b → p + q ≡ pair v t
unfolding pair
pair_made {t} {v} {y} h e p q =
    let at : (f : Flip) (x : ℕ) → x ≡ hash (flipped f 8 8 t) (2 * y) → x ≡ hash (flipped f 8 8 t) 16 = λ f x g. g ∙ ap (λ (n : ℕ). hash (flipped f 8 8 t) (2 * n)) e in
    rw (p, q, at (flip false v) _ h.plain, at (flip true v) _ h.across)
