-- The words that the code makes have the bytes and the pixels of their packings.
-- Assumes nothing.
use mathlib.Core.Path.{◌≡◌, refl, sym, ap, ap₂, ◌∙◌}
use mathlib.Core.List.{List, [], ◌∷◌}
use Prim.Native.Nat.{ℕ, ◌+◌, ◌*◌, ◌/◌, ◌%◌, ◌≤◌, ◌<◌}
use native.Mathlib.Nat.{lt_of_lt_of_le}
use native.Mathlib.Omega.{arith}
use lib.Dec.{T}
use lib.ListN.{length, get_or}
use denote.Enum.Declared.{tag_of}
use types.Run.{OneOf, miss}
use Rattle.words.specs.Loops.{each}
use Rattle.words.proofs.Items.{each-eq}
use Rattle.words.proofs.Filling.{each_of}
use Rattle.tile.specs.Bits.{bit_of, from_bits}
use Rattle.tile.specs.Layout.{Layout, element, spread}
use Rattle.tile.specs.Packings.{planar, plain, sprite, layout_in}
use Rattle.words.specs.Inner.{byte_in}
use Rattle.tile.specs.Inner.{pixel_count, byte_count, is_packing, is_chunky, byte_of, WordsOf, CellOf, word_from, HasWord, cell, cell_byte}
use Rattle.tile.specs.declared.Packing.{Packing}
use Rattle.tile.specs.declared.Packing.TheVariants.{Planar, Ngp, LowFirst, HighFirst, Plain, Sprite}
use Rattle.tile.specs.contracts.Packing.{the_type}
use Rattle.tile.proofs.Bits.{bits-same, bits_of}
use Rattle.tile.proofs.Filling.{spread-is}
use Rattle.tile.proofs.RoundTrip.{is_layout, from-pixels, from_bytes}
use Rattle.tile.proofs.Packings.{layout_is, planes-of, cell_from}
use Rattle.tile.proofs.Sides.{word_byte, has_word}

-- a layout of at most n words of pixels and m of bytes
pub record Fits (l : Layout) (n m : ℕ) : Type 0 where
  pub is : T (is_layout l)
  pub pixels : l.pixels.count ≤ n * 8
  pub deep : l.pixels.bits ≤ 8
  pub bytes : l.bytes.count ≤ m * 8
  pub wide : l.bytes.bits ≤ 8

pub word-law : {l : Layout} {n m : ℕ} → Fits l n m → (xs ws : List ℕ) (b w : ℕ) → WordsOf xs n ws → b * 8 + 8 ≤ l.bytes.count
    → w ≡ word_from l.bytes ws b → HasWord (element l.bytes xs) b w
word-law {l} {n} f xs ws b w =
    has_word l.bytes n xs ws b w f.wide
    (λ k j lk lj. let r = from_bytes l f.is k j lk lj in (lt_of_lt_of_le r.within f.pixels, lt_of_lt_of_le r.bit-within f.deep))

pub row-law : {l : Layout} {n m : ℕ} → Fits l n m → (bs ws : List ℕ) (r w : ℕ) → WordsOf bs m ws → r * 8 + 8 ≤ l.pixels.count
    → w ≡ word_from l.pixels ws r → HasWord (element l.pixels bs) r w
row-law {l} {m = m} f bs ws r w =
    has_word l.pixels m bs ws r w f.deep
    (λ k j lk lj. let t = from-pixels l f.is k j lk lj in (lt_of_lt_of_le t.within f.bytes, lt_of_lt_of_le t.bit-within f.wide))

-- ---- pixels one after the other, each with its bits together

pub record Chunky (p : Packing) : Type 0 where
  pub fits : Fits (layout_in p) 8 (byte_count p / 8)
  pub pixels : pixel_count p ≡ 64
  pub bytes : byte_count p / 8 * 8 ≡ byte_count p
  pub few : byte_count p ≤ 32

chunky : (p : Packing) → T (is_layout (layout_in p)) → (layout_in p).pixels.bits ≤ 8 → (layout_in p).bytes.bits ≤ 8 → pixel_count p ≡ 64
    → byte_count p / 8 * 8 ≡ byte_count p → byte_count p ≤ 32 → Chunky p
chunky p is deep wide pixels bytes few =
    record {
      fits = record { is = is; pixels = omega arith; deep = deep; bytes = omega arith; wide = wide };
      pixels = pixels;
      bytes = bytes;
      few = few;
    }

pub chunky-of : (p : Packing) → T (is_chunky p) → Chunky p
chunky-of (Planar g d) t = absurd t
chunky-of Ngp t = chunky Ngp tt (omega arith) (omega arith) refl refl (omega arith)
chunky-of LowFirst t = chunky LowFirst tt (omega arith) (omega arith) refl refl (omega arith)
chunky-of HighFirst t = chunky HighFirst tt (omega arith) (omega arith) refl refl (omega arith)
chunky-of Plain t = absurd t
chunky-of (Sprite w h) t = absurd t

-- what is left of a match whose other arms name the others
pub is-chunky : (p : Packing) → OneOf (1 ∷ 2 ∷ 3 ∷ []) (tag_of the_type p) → T (is_chunky p)
is-chunky (Planar g d) o = absurd (miss (1 ∷ 2 ∷ 3 ∷ []) 0 tt o)
is-chunky Ngp o = tt
is-chunky LowFirst o = tt
is-chunky HighFirst o = tt
is-chunky Plain o = absurd (miss (1 ∷ 2 ∷ 3 ∷ []) 4 tt o)
is-chunky (Sprite w h) o = absurd (miss (1 ∷ 2 ∷ 3 ∷ []) 5 tt o)

pub is-high-first : (p : Packing) → T (is_chunky p) → (p ≡ Ngp → ⊥) → (p ≡ LowFirst → ⊥) → p ≡ HighFirst
is-high-first (Planar g d) t n l = absurd t
is-high-first Ngp t n l = absurd (n refl)
is-high-first LowFirst t n l = absurd (l refl)
is-high-first HighFirst t n l = refl
is-high-first Plain t n l = absurd t
is-high-first (Sprite w h) t n l = absurd t

-- ---- planes

-- a word of planes is the same at each depth that has it
pub planar-words-are : (g d : ℕ) → T (is_packing (Planar g d)) → (xs ws : List ℕ) (b w : ℕ) → WordsOf xs 8 ws → b < d
    → w ≡ word_from (planar g 8 8 8).bytes ws b → HasWord (element (planar g d 8 8).bytes xs) b w
unfolding word_from
planar-words-are g d t xs ws b w read l e =
    let deep = (planes-of g d t).deep in
    let fits : Fits (planar g d 8 8) 8 8 = record { is = layout_is (Planar g d) t; pixels = omega arith; deep = deep; bytes = omega arith; wide = omega arith } in
    word-law fits xs ws b w read (omega arith) e

-- ---- sprites

cell_row : (from w k j : ℕ) → j < 8 → from + (k % 32 * 8 + j) / 16 * w + (k % 32 * 8 + j) % 16 ≡ from + k % 32 / 2 * w + (k % 2 * 8 + j)
cell_row from w k j l =
    let y : (k % 32 * 8 + j) / 16 ≡ k % 32 / 2 = omega arith in
    let x : (k % 32 * 8 + j) % 16 ≡ k % 2 * 8 + j = omega arith in
    ap₂ (λ (y x : ℕ). from + y * w + x) y x

pub cell-word-is : (xs ws : List ℕ) (from w b v : ℕ) → CellOf xs from w ws → b < 16 → v ≡ word_from cell ws b → HasWord (cell_byte xs from w) b v
cell-word-is xs ws from w b v read lb e m lm =
    let k = b * 8 + m in
    ap (λ (x : ℕ). byte_in x m) e
    ∙ word_byte cell ws b m (omega arith) (λ j l. omega arith) lm
    ∙ bits-same 8 0 (λ j. bit_of (k / 32) (byte_of ws (k % 32 * 8 + j))) (λ j. bit_of (k / 32) (get_or xs (from + k % 32 / 2 * w + (k % 2 * 8 + j)) 0))
    (λ j a c. ap (bit_of (k / 32)) (read.are (k % 32 * 8 + j) (omega arith) ∙ ap (λ (x : ℕ). get_or xs x 0) (cell_row from w k j (omega arith))))

-- the pixels of cell c of a sprite
cell-pixel : (a b l w e j : ℕ) → (a * 16 + b) * w + (l * 16 + e) + j ≡ (a * w + l) * 16 + b * w + (e + j)
cell-pixel a b l w e j = omega arith

sprite-byte : (w h c k : ℕ) (xs : List ℕ) → k < 128 → cell_byte xs (cell_from w h c) w k ≡ element (sprite w h).bytes xs (c * 128 + k)
sprite-byte w h c k xs l =
    let d = h / 16 in
    let i = c * 128 + k in
    let here : i / 128 ≡ c = omega arith in
    let plane : i % 128 / 32 ≡ k / 32 = omega arith in
    let row : i % 32 / 2 ≡ k % 32 / 2 = omega arith in
    let half : i % 2 ≡ k % 2 = omega arith in
    let at : ℕ → ℕ → ℕ → ℕ → ℕ = λ c y x j. (c % d * 16 + y) * w + (c / d * 16 + x * 8) + j in
    bits-same 8 0 (λ j. bit_of (k / 32) (get_or xs (cell_from w h c + k % 32 / 2 * w + (k % 2 * 8 + j)) 0))
    (λ j. bit_of (i % 128 / 32) (get_or xs (at (i / 128) (i % 32 / 2) (i % 2) j) 0))
    (λ j a b. ap₂ (λ (p x : ℕ). bit_of p (get_or xs x 0)) (sym plane)
    (sym (ap (λ (c : ℕ). at c (i % 32 / 2) (i % 2) j) here ∙ ap₂ (λ (y x : ℕ). at c y x j) row half
    ∙ cell-pixel (c % d) (k % 32 / 2) (c / d) w (k % 2 * 8) j)))

pub sprite-cell : (w h c n : ℕ) (xs : List ℕ) → n ≤ 128
    → each n (λ k. cell_byte xs (cell_from w h c) w k ∷ []) ≡ each n (λ k. element (sprite w h).bytes xs (c * 128 + k) ∷ [])
sprite-cell w h c n xs l =
    each-eq n (λ k. cell_byte xs (cell_from w h c) w k ∷ []) (λ k. element (sprite w h).bytes xs (c * 128 + k) ∷ [])
    (λ k lk. ap (λ (x : ℕ). x ∷ []) (sprite-byte w h c k xs (omega arith)))

-- ---- pixels as they are

plain_byte : (v : ℕ) → v < 256 → v ≡ from_bits 8 0 (λ j. bit_of j v)
plain_byte v l = omega (arith, bits_of 8 0 v)

pub all_of : (xs : List ℕ) (n : ℕ) → length xs ≡ n → each n (λ k. get_or xs k 0 ∷ []) ≡ xs
all_of xs n len = ap (λ (n : ℕ). each n (λ k. get_or xs k 0 ∷ [])) (sym len) ∙ each_of xs

plain-each : (xs : List ℕ) → length xs ≡ 64 → ((i : ℕ) → i < 64 → get_or xs i 0 < 256)
    → xs ≡ each 64 (λ k. from_bits 8 0 (λ j. bit_of j (get_or xs k 0)) ∷ [])
plain-each xs len small =
    sym (all_of xs 64 len)
    ∙ each-eq 64 (λ k. get_or xs k 0 ∷ []) (λ k. from_bits 8 0 (λ j. bit_of j (get_or xs k 0)) ∷ [])
    (λ k l. ap (λ (x : ℕ). x ∷ []) (plain_byte (get_or xs k 0) (small k l)))

pub plain-bytes : (xs : List ℕ) → length xs ≡ 64 → ((i : ℕ) → i < 64 → get_or xs i 0 < 256) → xs ≡ spread (plain 8 8).bytes xs
plain-bytes xs len small = plain-each xs len small ∙ spread-is (plain 8 8).bytes xs 64 (omega arith)

pub plain-pixels : (bs : List ℕ) → length bs ≡ 64 → ((i : ℕ) → i < 64 → get_or bs i 0 < 256) → bs ≡ spread (plain 8 8).pixels bs
plain-pixels bs len small = plain-each bs len small ∙ spread-is (plain 8 8).pixels bs 64 (omega arith)
