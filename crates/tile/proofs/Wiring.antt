-- Words made by masks, shifts and `|`, written out, so that where each bit comes from is computed.
-- Assumes nothing.
use mathlib.Core.Path.{◌≡◌, refl, sym, ap, ap₂, ◌∙◌}
use mathlib.Core.Bool.{Bool, true, false, not, ◌&&◌}
use Prim.Native.Nat.{ℕ, zero, suc, ◌+◌, ◌-◌, ◌*◌, ◌/◌, ◌%◌, ◌^◌, ◌≤◌, ◌<◌}
use native.Mathlib.Nat.{lt_of_le_of_lt, lt_of_lt_of_le, mod-lt, div-le_self, mod-eq_of_lt, div-one}
use native.Mathlib.Omega.{arith}
use lib.Bits.{bit_and, bit_or, or_lt, and_le_l, or_zero_l, or_zero_r}
use lib.Dec.{T, ltb, eqb, ltb→lt, nltb→le, eqb→eq}
use lib.Pow.{pow_pos, pow_mono}
use Rattle.tile.specs.Bits.{bit_of, from_bits}
use Rattle.words.specs.Inner.{all}
use Rattle.tile.proofs.Bits.{bits-same, bits_of}
use Rattle.words.proofs.Loops.{both_left, both_right, all-at}
use Rattle.tile.specs.Inner.{gate}
use Rattle.tile.proofs.WordBits.{bit-or, bit_kept, bit-cleared, bit-shr, bit-above, bit-low, bit-shl, bit_below}

-- an expression over numbered words
pub data Wire : Type 0 where
  given : ℕ → Wire
  down : Wire → ℕ → Wire
  up : Wire → ℕ → Wire
  keep : Wire → ℕ → Wire
  join : Wire → Wire → Wire

unfoldable pub value : (ℕ → ℕ) → Wire → ℕ
value e (given i) = e i
value e (down w s) = value e w / 2 ^ s
value e (up w s) = value e w * 2 ^ s % 2 ^ 64
value e (keep w m) = bit_and (value e w) m
value e (join v w) = bit_or (value e v) (value e w)

-- where a bit comes from: nowhere, from a bit of a given word, or from two places
pub data Origin : Type 0 where
  nowhere : Origin
  from : ℕ → ℕ → Origin
  either : Origin → Origin → Origin

unfoldable pub pick : Bool → Origin → Origin
pick true o = o
pick false o = nowhere

unfoldable pub merge : Origin → Origin → Origin
merge nowhere o = o
merge (from i p) nowhere = from i p
merge (from i p) (from k q) = either (from i p) (from k q)
merge (from i p) (either a b) = either (from i p) (either a b)
merge (either a b) o = either (either a b) o

-- the given words have n bits
unfoldable pub origin : ℕ → Wire → ℕ → Origin
origin n (given i) j = pick (ltb j n) (from i j)
origin n (down w s) j = origin n w (s + j)
origin n (up w s) j = pick (ltb j 64) (pick (ltb s (suc j)) (origin n w (j - s)))
origin n (keep w m) j = pick (eqb (bit_of j m) 1) (origin n w j)
origin n (join v w) j = merge (origin n v j) (origin n w j)

unfoldable pub meaning : (ℕ → ℕ) → Origin → ℕ
meaning e nowhere = 0
meaning e (from i p) = bit_of p (e i)
meaning e (either a b) = bit_or (meaning e a) (meaning e b)

merge-means : (e : ℕ → ℕ) (a b : Origin) → bit_or (meaning e a) (meaning e b) ≡ meaning e (merge a b)
unfolding meaning merge
merge-means e nowhere b = or_zero_l (meaning e b)
merge-means e (from i p) nowhere = or_zero_r (bit_of p (e i))
merge-means e (from i p) (from k q) = refl
merge-means e (from i p) (either a b) = refl
merge-means e (either a b) o = refl

-- a test decides: what holds where it is true, and where it is false
by-test : (e : ℕ → ℕ) (b : Bool) (o : Origin) (v : ℕ) → (T b → v ≡ meaning e o) → (T (not b) → v ≡ 0) → v ≡ meaning e (pick b o)
unfolding meaning pick
by-test e true o v h k = h tt
by-test e false o v h k = k tt

-- a bit of a word that was shifted up
shifted : (v s j : ℕ) (e : ℕ → ℕ) (o : Origin) → bit_of (j - s) v ≡ meaning e o
    → bit_of j (v * 2 ^ s % 2 ^ 64) ≡ meaning e (pick (ltb j 64) (pick (ltb s (suc j)) o))
shifted v s j e o h =
    by-test e (ltb j 64) (pick (ltb s (suc j)) o) (bit_of j (v * 2 ^ s % 2 ^ 64))
    (λ t. bit-low j (v * 2 ^ s) 64 (ltb→lt j 64 t)
    ∙ by-test e (ltb s (suc j)) o (bit_of j (v * 2 ^ s)) (λ u. inside (ltb→lt s (suc j) u)) (λ u. bit_below j v s (nltb→le s (suc j) u)))
    (λ t. bit-above j (v * 2 ^ s % 2 ^ 64) 64 (mod-lt (v * 2 ^ s) (pow_pos 64)) (nltb→le j 64 t))
  where
    inside : s < suc j → bit_of j (v * 2 ^ s) ≡ meaning e o
    inside l = let at : j ≡ s + (j - s) = omega arith in ap (λ (k : ℕ). bit_of k (v * 2 ^ s)) at ∙ bit-shl (j - s) v s ∙ h

not-one : (b : ℕ) → b < 2 → T (not (eqb b 1)) → b ≡ 0
not-one zero l t = refl
not-one (suc zero) l t = absurd t
not-one (suc (suc b)) l t = absurd (omega arith)

given_is : (i j : ℕ) (e : ℕ → ℕ) → bit_of j (e i) ≡ meaning e (from i j)
unfolding meaning
given_is i j e = refl

-- where a bit is said to come from is where it comes from
pub sound : (n : ℕ) (e : ℕ → ℕ) → ((i : ℕ) → e i < 2 ^ n) → (w : Wire) (j : ℕ) → bit_of j (value e w) ≡ meaning e (origin n w j)
unfolding value origin
sound n e h (given i) j =
    by-test e (ltb j n) (from i j) (bit_of j (e i)) (λ t. given_is i j e) (λ f. bit-above j (e i) n (h i) (nltb→le j n f))
sound n e h (down w s) j = bit-shr j (value e w) s ∙ sound n e h w (s + j)
sound n e h (up w s) j = shifted (value e w) s j e (origin n w (j - s)) (sound n e h w (j - s))
sound n e h (keep w m) j =
    by-test e (eqb (bit_of j m) 1) (origin n w j) (bit_of j (bit_and (value e w) m))
    (λ t. bit_kept j (value e w) m (eqb→eq (bit_of j m) 1 t) ∙ sound n e h w j)
    (λ t. bit-cleared j (value e w) m (not-one (bit_of j m) (omega arith) t))
sound n e h (join v w) j =
    bit-or j (value e v) (value e w) ∙ ap₂ bit_or (sound n e h v j) (sound n e h w j) ∙ merge-means e (origin n v j) (origin n w j)

value-lt : (n : ℕ) (e : ℕ → ℕ) → ((i : ℕ) → e i < 2 ^ n) → n ≤ 64 → (w : Wire) → value e w < 2 ^ 64
unfolding value
value-lt n e h l (given i) = lt_of_lt_of_le (h i) (pow_mono l)
value-lt n e h l (down w s) = lt_of_le_of_lt (div-le_self (value e w) (2 ^ s)) (value-lt n e h l w)
value-lt n e h l (up w s) = mod-lt (value e w * 2 ^ s) (pow_pos 64)
value-lt n e h l (keep w m) = lt_of_le_of_lt (and_le_l (value e w) m) (value-lt n e h l w)
value-lt n e h l (join v w) = or_lt 64 (value e v) (value e w) (value-lt n e h l v) (value-lt n e h l w)

-- ---- the test

unfoldable pub is_from : Origin → ℕ → ℕ → Bool
is_from nowhere i p = false
is_from (from k q) i p = eqb k i && eqb q p
is_from (either a b) i p = false

from-means : (e : ℕ → ℕ) (o : Origin) (i p : ℕ) → T (is_from o i p) → meaning e o ≡ bit_of p (e i)
unfolding is_from meaning
from-means e nowhere i p t = absurd t
from-means e (from k q) i p t =
    ap₂ (λ (x y : ℕ). bit_of y (e x)) (eqb→eq k i (both_left (eqb k i) (eqb q p) t)) (eqb→eq q p (both_right (eqb k i) (eqb q p) t))
from-means e (either a b) i p t = absurd t

unfoldable pub suits : Bool → Origin → ℕ → ℕ → Bool
suits true o i p = is_from o i p
suits false nowhere i p = true
suits false (from k q) i p = false
suits false (either a b) i p = false

suits-means : (e : ℕ → ℕ) (l : Bool) (o : Origin) (i p : ℕ) → T (suits l o i p) → meaning e o ≡ gate l (bit_of p (e i))
unfolding suits meaning gate
suits-means e true o i p t = from-means e o i p t
suits-means e false nowhere i p t = refl
suits-means e false (from k q) i p t = absurd t
suits-means e false (either a b) i p t = absurd t

unfoldable pub is_wired_in : ℕ → Wire → (ℕ → Bool) → (ℕ → ℕ) → (ℕ → ℕ) → Bool
is_wired_in n w live i p = all 64 (λ j. suits (live j) (origin n w j) (i j) (p j))

pub wired-in : (n : ℕ) (w : Wire) (live : ℕ → Bool) (i p : ℕ → ℕ) → T (is_wired_in n w live i p) → n ≤ 64 → (e : ℕ → ℕ) → ((k : ℕ) → e k < 2 ^ n)
    → value e w ≡ from_bits 64 0 (λ j. gate (live j) (bit_of (p j) (e (i j))))
unfolding is_wired_in
wired-in n w live i p t l e h =
    sym (mod-eq_of_lt (value-lt n e h l w)) ∙ ap (λ (x : ℕ). x % 2 ^ 64) (sym (div-one (value e w))) ∙ sym (bits_of 64 0 (value e w))
    ∙ bits-same 64 0 (λ j. bit_of j (value e w)) (λ j. gate (live j) (bit_of (p j) (e (i j))))
    (λ j a b. sound n e h w j
    ∙ suits-means e (live j) (origin n w j) (i j) (p j) (all-at 64 (λ j. suits (live j) (origin n w j) (i j) (p j)) t j (omega arith)))
