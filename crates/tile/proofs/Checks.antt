-- What the checks of packing and unpacking say, where they pass and where one does not; and how a packed tile meets the promise.
-- Assumes nothing.
use mathlib.Core.Path.{◌≡◌, refl, sym, ap, ap₂, ◌∙◌, subst}
use mathlib.Core.Bool.{Bool, true, false, not, ◌||◌}
use mathlib.Core.List.{List, [], ◌∷◌}
use Prim.Native.Nat.{ℕ, zero, suc, ◌*◌, ◌/◌, ◌^◌, ◌<◌, ◌≤◌}
use native.Mathlib.Omega.{arith}
use lib.Dec.{T, ltb, leb, eqb}
use lib.ListN.{length, get_or, take, drop}
use lib.Seq.{sets, take_all, length-take-le, get_or-take}
use borrow.Author.Tests.{lt-leb, ltb-false, leb-false, eqb-true, not-false, lt-ltb, le-ltb, eq-eqb, ne_eqb}
use Rattle.words.specs.Answers.{◌when◌, first_applying, overwrite}
use Rattle.words.specs.Loops.{some}
use Rattle.words.specs.InnerResults.{refusal_number}
use Rattle.words.specs.declared.refusal.Refusal.{Refusal}
use Rattle.words.proofs.Answers.{all-passed, not-given}
use Rattle.words.proofs.Items.{none-at}
use Rattle.words.proofs.Loops.{sets-front}
use Rattle.words.proofs.Refusing.{refused_first}
use Rattle.words.proofs.Order.{checks-given, checks-after, checks-first}
use Rattle.mode.specs.Table.{has_depth}
use Rattle.tile.specs.Packings.{layout_in}
use Rattle.tile.specs.Inner.{pixel_count, byte_count, packed_in, unpacked_in, Packs, Unpacks}
use Rattle.tile.specs.Tile.{packing_of, is_native, too_large, tile_checks, pack_checks, unpack_checks, tile_says, pack_says, unpack_says, packed, unpacked}
use Rattle.tile.specs.declared.Packing.{Packing}
use Rattle.tile.proofs.RoundTrip.{length-spread}
use Rattle.tile.proofs.Native.{Native, Fitting, fitting}

-- a check that did not apply to what was denied
passes : (n : ℕ) (b : Bool) → suc n when not b ≡ 0 → b ≡ true
passes n b z = not-false b (not-given n (not b) z)

-- no pixel is too large where each is below the limit
pub all_small : (n d : ℕ) (pixels : List ℕ) → ((i : ℕ) → i < n → get_or pixels i 0 < 2 ^ d) → some n (too_large d pixels) ≡ false
all_small zero d pixels h = refl
all_small (suc n) d pixels h = rw (all_small n d pixels (λ i l. h i (omega arith)), lt-leb (2 ^ d) (get_or pixels n 0) (h n (omega arith)))

-- what is asked of the first pixels is asked of these alone
some-same : (n : ℕ) (f g : ℕ → Bool) → ((i : ℕ) → i < n → f i ≡ g i) → some n f ≡ some n g
some-same zero f g h = refl
some-same (suc n) f g h = ap₂ (λ (a b : Bool). a || b) (some-same n f g (λ i l. h i (omega arith))) (h n (omega arith))

pub large-front : (n d : ℕ) (pixels : List ℕ) → n ≤ length pixels → some (length (take n pixels)) (too_large d (take n pixels)) ≡ some n (too_large d pixels)
large-front n d pixels l =
    rw (length-take-le n pixels l) (some-same n (too_large d (take n pixels)) (too_large d pixels) (λ i k. ap (leb (2 ^ d)) (get_or-take n pixels i 0 k)))

-- ---- the tile

pub native-of : (m d w h : ℕ) → tile_says m d w h ≡ 0 → Native m d w h
unfolding tile_says
native-of m d w h z =
    let check : (k : ℕ) → get_or (tile_checks m d w h) k 0 ≡ 0 = all-passed (tile_checks m d w h) z in
    record {
      mode = omega (arith, ltb-false 15 m (not-given 0 (ltb 15 m) (check 0)));
      depth = subst T (sym (passes 2 (has_depth m d) (check 1))) tt;
      size = subst T (sym (passes 3 (is_native m w h) (check 2))) tt;
    }

pub fitting-of : {m d w h : ℕ} → tile_says m d w h ≡ 0 → Fitting m d w h
fitting-of {m} {d} {w} {h} z = fitting (native-of m d w h z)

-- ---- packing

module _ (m d w h : ℕ) (pixels : List ℕ) (space : ℕ) where
  abbrev pack_rest : List ℕ
  pack_rest = 7 when not (eqb (length pixels) (w * h)) ∷ 8 when some (length pixels) (too_large d pixels) ∷ 11 when ltb space (w * h * d / 8) ∷ []

  pub pack-first : (n : ℕ) → n ≡ tile_says m d w h → (n ≡ 0 → ⊥) → n ≡ pack_says m d w h pixels space
  unfolding tile_says pack_says
  pack-first = checks-given (tile_checks m d w h) pack_rest

  pub pack-refused : (e : Refusal) → refusal_number e ≡ tile_says m d w h → refusal_number e ≡ pack_says m d w h pixels space
  unfolding tile_says pack_says
  pack-refused = refused_first (tile_checks m d w h) pack_rest

  module _ (z : tile_says m d w h ≡ 0) where
    pack-rest : pack_says m d w h pixels space ≡ first_applying pack_rest
    unfolding tile_says pack_says
    pack-rest = checks-after (tile_checks m d w h) pack_rest z

    pub pack-7 : (length pixels ≡ w * h → ⊥) → 7 ≡ pack_says m d w h pixels space
    pack-7 f = rw (pack-rest, ne_eqb _ _ f)

    pub pack-8 : length pixels ≡ w * h → some (length pixels) (too_large d pixels) ≡ true → 8 ≡ pack_says m d w h pixels space
    pack-8 len large = rw (pack-rest, eq-eqb _ _ len, large)

    pub pack-11 : length pixels ≡ w * h → some (length pixels) (too_large d pixels) ≡ false → space < w * h * d / 8 → 11 ≡ pack_says m d w h pixels space
    pack-11 len small short = rw (pack-rest, eq-eqb _ _ len, small, lt-ltb _ _ short)

    pub pack-0 : length pixels ≡ w * h → some (length pixels) (too_large d pixels) ≡ false → w * h * d / 8 ≤ space → 0 ≡ pack_says m d w h pixels space
    pack-0 len small fit = rw (pack-rest, eq-eqb _ _ len, small, le-ltb _ _ fit)

pub ruleset packing = (pack-refused, pack-7, pack-8, pack-11, pack-0, sym)

-- what is known of a tile that is packed
pub record Packable (m d w h : ℕ) (pixels : List ℕ) (space : ℕ) : Type 0 where
  pub allowed : tile_says m d w h ≡ 0
  pub native : Native m d w h
  pub whole : length pixels ≡ w * h
  pub small : (i : ℕ) → i < w * h → get_or pixels i 0 < 2 ^ d
  pub fits : w * h * d / 8 ≤ space

pub packable : (m d w h : ℕ) (pixels : List ℕ) (space : ℕ) → pack_says m d w h pixels space ≡ 0 → Packable m d w h pixels space
unfolding tile_says pack_says
packable m d w h pixels space z =
    let check : (k : ℕ) → get_or (pack_checks m d w h pixels space) k 0 ≡ 0 = all-passed (pack_checks m d w h pixels space) z in
    let len : length pixels ≡ w * h = eqb-true (length pixels) (w * h) (passes 6 (eqb (length pixels) (w * h)) (check 3)) in
    let none : some (length pixels) (too_large d pixels) ≡ false = not-given 7 (some (length pixels) (too_large d pixels)) (check 4) in
    let tile : tile_says m d w h ≡ 0 = checks-first (tile_checks m d w h) (pack_rest m d w h pixels space) z in
    record {
      allowed = tile;
      native = native-of m d w h tile;
      whole = len;
      small = λ i l. leb-false (2 ^ d) (get_or pixels i 0) (none-at (length pixels) (too_large d pixels) none i (rw len l));
      fits = ltb-false space (w * h * d / 8) (not-given 10 (ltb space (w * h * d / 8)) (check 5));
    }

module _ {p : Packing} (m d w h : ℕ) (pixels out : List ℕ) (e : p ≡ packing_of m d w h) (z : pack_says m d w h pixels (length out) ≡ 0) where
  pub pack-asks : Packs p pixels 0 out 0
  pack-asks =
      let a = packable m d w h pixels (length out) z in
      let f = fitting a.native in
      subst (λ (x : Packing). Packs x pixels 0 out 0) (sym e)
      (record { sound = f.sound; inside = omega (arith, f.pixels, a.whole); space = omega (arith, f.bytes, a.fits) })

  pub pack-length : byte_count p ≡ length (packed m d w h pixels)
  pack-length = ap byte_count e ∙ sym (length-spread (layout_in (packing_of m d w h)).bytes pixels)

  pub pack-leaves : sets out 0 (packed_in p (take (pixel_count p) (drop 0 pixels))) ≡ overwrite out (packed m d w h pixels)
  pack-leaves =
      let a = packable m d w h pixels (length out) z in
      let f = fitting a.native in
      let all : take (pixel_count (packing_of m d w h)) pixels ≡ pixels = take_all (pixel_count (packing_of m d w h)) pixels (omega (arith, f.pixels, a.whole)) in
      ap (λ (x : Packing). sets out 0 (packed_in x (take (pixel_count x) pixels))) e
      ∙ ap (λ (xs : List ℕ). sets out 0 (packed m d w h xs)) all
      ∙ sets-front out (packed m d w h pixels) (omega (arith, length-spread (layout_in (packing_of m d w h)).bytes pixels, f.bytes, a.fits))

-- ---- unpacking

module _ (m d w h len space : ℕ) where
  abbrev unpack_rest : List ℕ
  unpack_rest = 7 when not (eqb len (w * h * d / 8)) ∷ 11 when ltb space (w * h) ∷ []

  pub unpack-first : (n : ℕ) → n ≡ tile_says m d w h → (n ≡ 0 → ⊥) → n ≡ unpack_says m d w h len space
  unfolding tile_says unpack_says
  unpack-first = checks-given (tile_checks m d w h) unpack_rest

  pub unpack-refused : (e : Refusal) → refusal_number e ≡ tile_says m d w h → refusal_number e ≡ unpack_says m d w h len space
  unfolding tile_says unpack_says
  unpack-refused = refused_first (tile_checks m d w h) unpack_rest

  module _ (z : tile_says m d w h ≡ 0) where
    unpack-rest : unpack_says m d w h len space ≡ first_applying unpack_rest
    unfolding tile_says unpack_says
    unpack-rest = checks-after (tile_checks m d w h) unpack_rest z

    pub unpack-7 : (len ≡ w * h * d / 8 → ⊥) → 7 ≡ unpack_says m d w h len space
    unpack-7 f = rw (unpack-rest, ne_eqb _ _ f)

    pub unpack-11 : len ≡ w * h * d / 8 → space < w * h → 11 ≡ unpack_says m d w h len space
    unpack-11 e short = rw (unpack-rest, eq-eqb _ _ e, lt-ltb _ _ short)

    pub unpack-0 : len ≡ w * h * d / 8 → w * h ≤ space → 0 ≡ unpack_says m d w h len space
    unpack-0 e fit = rw (unpack-rest, eq-eqb _ _ e, le-ltb _ _ fit)

pub ruleset unpacking = (unpack-refused, unpack-7, unpack-11, unpack-0, sym)

-- what is known of a tile that is unpacked
pub record Unpackable (m d w h len space : ℕ) : Type 0 where
  pub allowed : tile_says m d w h ≡ 0
  pub native : Native m d w h
  pub whole : len ≡ w * h * d / 8
  pub fits : w * h ≤ space

pub unpackable : (m d w h len space : ℕ) → unpack_says m d w h len space ≡ 0 → Unpackable m d w h len space
unfolding tile_says unpack_says
unpackable m d w h len space z =
    let check : (k : ℕ) → get_or (unpack_checks m d w h len space) k 0 ≡ 0 = all-passed (unpack_checks m d w h len space) z in
    let tile : tile_says m d w h ≡ 0 = checks-first (tile_checks m d w h) (unpack_rest m d w h len space) z in
    record {
      allowed = tile;
      native = native-of m d w h tile;
      whole = eqb-true len (w * h * d / 8) (passes 6 (eqb len (w * h * d / 8)) (check 3));
      fits = ltb-false space (w * h) (not-given 10 (ltb space (w * h)) (check 4));
    }

module _ {p : Packing} (m d w h : ℕ) (bytes out : List ℕ) (e : p ≡ packing_of m d w h) (z : unpack_says m d w h (length bytes) (length out) ≡ 0) where
  pub unpack-asks : Unpacks p bytes 0 out 0
  unpack-asks =
      let a = unpackable m d w h (length bytes) (length out) z in
      let f = fitting a.native in
      subst (λ (x : Packing). Unpacks x bytes 0 out 0) (sym e)
      (record { sound = f.sound; inside = omega (arith, f.bytes, a.whole); space = omega (arith, f.pixels, a.fits) })

  pub unpack-length : pixel_count p ≡ length (unpacked m d w h bytes)
  unpack-length = ap pixel_count e ∙ sym (length-spread (layout_in (packing_of m d w h)).pixels bytes)

  pub unpack-leaves : sets out 0 (unpacked_in p (take (byte_count p) (drop 0 bytes))) ≡ overwrite out (unpacked m d w h bytes)
  unpack-leaves =
      let a = unpackable m d w h (length bytes) (length out) z in
      let f = fitting a.native in
      let all : take (byte_count (packing_of m d w h)) bytes ≡ bytes = take_all (byte_count (packing_of m d w h)) bytes (omega (arith, f.bytes, a.whole)) in
      ap (λ (x : Packing). sets out 0 (unpacked_in x (take (byte_count x) bytes))) e
      ∙ ap (λ (bs : List ℕ). sets out 0 (unpacked m d w h bs)) all
      ∙ sets-front out (unpacked m d w h bytes) (omega (arith, length-spread (layout_in (packing_of m d w h)).pixels bytes, f.pixels, a.fits))
