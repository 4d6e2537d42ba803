-- Document 01's laws of tiles: both round trips, lengths, and how large a pixel is, in every mode, depth and size.
-- Assumes nothing.
use mathlib.Core.Path.{◌≡◌, refl, sym, ◌∙◌, subst}
use mathlib.Core.List.{List, [], ◌∷◌}
use Prim.Native.Nat.{ℕ, zero, suc, ◌*◌, ◌/◌, ◌^◌, ◌<◌, ◌≤◌}
use native.Mathlib.Nat.{le_of_suc-le-suc, not-suc-le-zero, zero-lt-suc}
use native.Mathlib.Omega.{arith}
use lib.Dec.{T, ltb, ltb→lt}
use lib.ListN.{length, get_or}
use borrow.Author.Tests.{lt-ltb}
use Rattle.words.specs.Bytes.{are_bytes}
use Rattle.words.proofs.Loops.{both_left, both_right, both}
use Rattle.tile.specs.Packings.{layout_in}
use Rattle.tile.specs.Inner.{pixel_count, byte_count, packed_in, unpacked_in, is_packing}
use Rattle.tile.specs.Tile.{packing_of, layout_of, tile_says, pack_says, unpack_says, packed, unpacked}
use Rattle.tile.specs.declared.Packing.{Packing}
use Rattle.tile.specs.declared.Packing.TheVariants.{Planar, Ngp, LowFirst, HighFirst, Plain, Sprite}
use Rattle.tile.proofs.RoundTrip.{from-pixels, from_bytes, length-spread, spread-lt, there_and_back}
use Rattle.tile.proofs.Packings.{layout_is}
use Rattle.tile.proofs.Native.{Fitting, fitting}
use Rattle.tile.proofs.Checks.{native-of, packable, unpackable, all_small, pack-0, unpack-0}

-- ---- bytes

byte_at : (bs : List ℕ) → T (are_bytes bs) → (k : ℕ) → k < length bs → get_or bs k 0 < 256
byte_at [] t k l = absurd (not-suc-le-zero l)
byte_at (b ∷ bs) t zero l = ltb→lt b 256 (both_left (ltb b 256) (are_bytes bs) t)
byte_at (b ∷ bs) t (suc k) l = byte_at bs (both_right (ltb b 256) (are_bytes bs) t) k (le_of_suc-le-suc l)

all-bytes : (bs : List ℕ) → ((k : ℕ) → k < length bs → get_or bs k 0 < 256) → T (are_bytes bs)
all-bytes [] h = tt
all-bytes (b ∷ bs) h =
    both (ltb b 256) (are_bytes bs) (subst T (sym (lt-ltb b 256 (h 0 (zero-lt-suc (length bs))))) tt) (all-bytes bs (λ k l. h (suc k) (omega arith)))

eight-bits : (p : Packing) → (layout_in p).bytes.bits ≡ 8
eight-bits (Planar g d) = refl
eight-bits Ngp = refl
eight-bits LowFirst = refl
eight-bits HighFirst = refl
eight-bits Plain = refl
eight-bits (Sprite w h) = refl

-- ---- a packing

-- what is packed is bytes
pub packed-bytes-in : (p : Packing) (pixels : List ℕ) → T (are_bytes (packed_in p pixels))
packed-bytes-in p pixels =
    let s = (layout_in p).bytes in
    all-bytes (packed_in p pixels)
    (λ k l. subst (λ (n : ℕ). get_or (packed_in p pixels) k 0 < 2 ^ n) (eight-bits p) (spread-lt s pixels k (rw (length-spread s pixels) at l)))

pub pixels-back-in : (p : Packing) → T (is_packing p) → (pixels : List ℕ) → length pixels ≡ pixel_count p
    → ((i : ℕ) → i < pixel_count p → get_or pixels i 0 < 2 ^ (layout_in p).pixels.bits) → unpacked_in p (packed_in p pixels) ≡ pixels
pixels-back-in p t pixels = there_and_back (layout_in p).pixels (layout_in p).bytes (from-pixels (layout_in p) (layout_is p t)) pixels

pub bytes-back-in : (p : Packing) → T (is_packing p) → (bytes : List ℕ) → length bytes ≡ byte_count p → T (are_bytes bytes) → packed_in p (unpacked_in p bytes) ≡ bytes
bytes-back-in p t bytes len b =
    there_and_back (layout_in p).bytes (layout_in p).pixels (from_bytes (layout_in p) (layout_is p t)) bytes len
    (λ k l. subst (λ (n : ℕ). get_or bytes k 0 < 2 ^ n) (sym (eight-bits p)) (byte_at bytes b k (rw len l)))

-- ---- a tile that a mode has

module _ (m d w h : ℕ) (z : tile_says m d w h ≡ 0) where
  fits : Fitting m d w h
  fits = fitting (native-of m d w h z)

  -- "64 row-major pixels, depth x 8 bytes"
  pub packed-length : (pixels : List ℕ) → length (packed m d w h pixels) ≡ w * h * d / 8
  packed-length pixels = length-spread (layout_of m d w h).bytes pixels ∙ fits.bytes

  pub unpacked-length : (bytes : List ℕ) → length (unpacked m d w h bytes) ≡ w * h
  unpacked-length bytes = length-spread (layout_of m d w h).pixels bytes ∙ fits.pixels

  pub packed-bytes : (pixels : List ℕ) → T (are_bytes (packed m d w h pixels))
  packed-bytes pixels = packed-bytes-in (packing_of m d w h) pixels

  pub unpacked-small : (bytes : List ℕ) (i : ℕ) → i < w * h → get_or (unpacked m d w h bytes) i 0 < 2 ^ d
  unpacked-small bytes i l =
      subst (λ (n : ℕ). get_or (unpacked m d w h bytes) i 0 < 2 ^ n) fits.bits (spread-lt (layout_of m d w h).pixels bytes i (rw fits.pixels l))

  pub pixels-back : (pixels : List ℕ) → length pixels ≡ w * h → ((i : ℕ) → i < w * h → get_or pixels i 0 < 2 ^ d) → unpacked m d w h (packed m d w h pixels) ≡ pixels
  pixels-back pixels len small =
      pixels-back-in (packing_of m d w h) fits.sound pixels (len ∙ sym fits.pixels)
      (λ i l. subst (λ (n : ℕ). get_or pixels i 0 < 2 ^ n) (sym fits.bits) (small i (rw fits.pixels at l)))

  pub bytes_back : (bytes : List ℕ) → length bytes ≡ w * h * d / 8 → T (are_bytes bytes) → packed m d w h (unpacked m d w h bytes) ≡ bytes
  bytes_back bytes len b = bytes-back-in (packing_of m d w h) fits.sound bytes (len ∙ sym fits.bytes) b

  -- what was unpacked can be packed, and what was packed unpacked, where there is room
  pub packs-unpacked : (bytes : List ℕ) (space : ℕ) → w * h * d / 8 ≤ space → pack_says m d w h (unpacked m d w h bytes) space ≡ 0
  packs-unpacked bytes space fit =
      let pixels = unpacked m d w h bytes in
      let small = all_small (length pixels) d pixels (λ i l. unpacked-small bytes i (rw (unpacked-length bytes) at l)) in
      sym (pack-0 m d w h pixels space z (unpacked-length bytes) small fit)

  pub unpacks-packed : (pixels : List ℕ) (space : ℕ) → w * h ≤ space → unpack_says m d w h (length (packed m d w h pixels)) space ≡ 0
  unpacks-packed pixels space fit = sym (unpack-0 m d w h (length (packed m d w h pixels)) space z (packed-length pixels) fit)

-- ---- where nothing was refused

-- "Ours inverts packing."
pub pixels-return : (m d w h : ℕ) (pixels : List ℕ) (space : ℕ) → pack_says m d w h pixels space ≡ 0 → unpacked m d w h (packed m d w h pixels) ≡ pixels
pixels-return m d w h pixels space z =
    let a = packable m d w h pixels space z in
    pixels-back m d w h a.allowed pixels a.whole a.small

pub bytes-return : (m d w h : ℕ) (bytes : List ℕ) (space : ℕ) → unpack_says m d w h (length bytes) space ≡ 0 → T (are_bytes bytes)
    → packed m d w h (unpacked m d w h bytes) ≡ bytes
bytes-return m d w h bytes space z b =
    let a = unpackable m d w h (length bytes) space z in
    bytes_back m d w h a.allowed bytes a.whole b
