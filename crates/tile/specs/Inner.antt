-- What the functions that pack and unpack a known packing ask, and what they compute on the way.
-- Assumes nothing.
use Rattle.std.specs.Prelude.{◌≡◌, Bool, true, false, ◌&&◌, List, [], ◌∷◌, ℕ, zero, suc, ◌+◌, ◌-◌, ◌*◌, ◌/◌, ◌%◌, ◌^◌, ◌≤◌, ◌<◌, T, ltb, eqb, length, get_or}
use Rattle.std.specs.Int.Bits.{bit_and, bit_or}
use Rattle.std.proofs.lemmas.List.Edits.{sets}
use Rattle.words.specs.Inner.{word_at, byte_in, bytes_in}
use Rattle.words.specs.Loops.{each}
use Rattle.mode.specs.Table.{one_of}
use Rattle.tile.specs.Bits.{bit_of, from_bits}
use Rattle.tile.specs.Packings.{low_first, high_first, layout_in}
use Rattle.tile.specs.declared.Packing.{Packing}
use Rattle.tile.specs.declared.Packing.TheVariants.{Planar, Ngp, LowFirst, HighFirst, Plain, Sprite}
use Rattle.tile.specs.Layout.{Layout, Side, spread}

-- How many pixels and bytes a packing has; and the bytes of its pixels, and back.
abbrev pub pixel_count : Packing → ℕ
pixel_count p = (layout_in p).pixels.count

abbrev pub byte_count : Packing → ℕ
byte_count p = (layout_in p).bytes.count

-- The bytes of a tile's pixels, and the pixels of its bytes.
abbrev pub packed_in : Packing → List ℕ → List ℕ
packed_in p pixels = spread (layout_in p).bytes pixels

abbrev pub unpacked_in : Packing → List ℕ → List ℕ
unpacked_in p bytes = spread (layout_in p).pixels bytes

-- The packings that there are: at most eight planes, in whole groups of one, two or four; and the six sizes of a sprite.
abbrev pub is_packing : Packing → Bool
is_packing (Planar g d) = one_of g (1 ∷ 2 ∷ 4 ∷ []) && (ltb d 9 && eqb (d % g) 0)
is_packing Ngp = true
is_packing LowFirst = true
is_packing HighFirst = true
is_packing Plain = true
is_packing (Sprite w h) = one_of w (16 ∷ 32 ∷ []) && one_of h (16 ∷ 32 ∷ 64 ∷ [])

-- What packing a tile asks: its pixels from place from on, and room for its bytes from place at on.
pub record Packs (p : Packing) (pixels : List ℕ) (from : ℕ) (out : List ℕ) (at : ℕ) : Type 0 where
  pub sound : T (is_packing p)
  pub inside : from + pixel_count p ≤ length pixels
  pub space : at + byte_count p ≤ length out

pub record Unpacks (p : Packing) (bytes : List ℕ) (from : ℕ) (out : List ℕ) (at : ℕ) : Type 0 where
  pub sound : T (is_packing p)
  pub inside : from + byte_count p ≤ length bytes
  pub space : at + pixel_count p ≤ length out

-- The same of a whole tile, its pixels or its bytes.
pub record PacksWhole (p : Packing) (pixels out : List ℕ) (at : ℕ) : Type 0 where
  pub sound : T (is_packing p)
  pub whole : length pixels ≡ pixel_count p
  pub space : at + byte_count p ≤ length out

pub record UnpacksWhole (p : Packing) (bytes out : List ℕ) (at : ℕ) : Type 0 where
  pub sound : T (is_packing p)
  pub whole : length bytes ≡ byte_count p
  pub space : at + pixel_count p ≤ length out

-- Groups of one, two or four planes, and d planes in whole groups of g, as arithmetic takes them.
pub record Group (g : ℕ) : Type 0 where
  pub some : 0 < g
  pub few : g ≤ 4
  pub even : g ≡ 3 → ⊥

pub record Planes (g d : ℕ) : Type 0 where
  pub group : Group g
  pub deep : d ≤ 8
  pub pairs : g ≡ 2 → d % 2 ≡ 0
  pub fours : g ≡ 4 → d % 4 ≡ 0

-- The packings whose pixels stand one after the other, each with its bits together, in less than a byte.
abbrev pub is_chunky : Packing → Bool
is_chunky (Planar g d) = false
is_chunky Ngp = true
is_chunky LowFirst = true
is_chunky HighFirst = true
is_chunky Plain = false
is_chunky (Sprite w h) = false

-- ---- words of eight bytes, the first at the bottom

-- Byte k of words.
abbrev pub byte_of : List ℕ → ℕ → ℕ
byte_of ws k = byte_in (get_or ws (k / 8) 0) (k % 8)

-- Words of 64 bits.
abbrev pub Small : List ℕ → Type 0
Small ws = (i : ℕ) → get_or ws i 0 < 2 ^ 64

-- The first n words of a list.
pub record WordsOf (xs : List ℕ) (n : ℕ) (ws : List ℕ) : Type 0 where
  pub are : (k : ℕ) → k < n * 8 → byte_of ws k ≡ get_or xs k 0

-- The words of a cell of 16x16, two a row, whose first pixel stands at place from of a tile w wide.
pub record CellOf (xs : List ℕ) (from w : ℕ) (ws : List ℕ) : Type 0 where
  pub are : (k : ℕ) → k < 256 → byte_of ws k ≡ get_or xs (from + k / 16 * w + k % 16) 0

-- n words read, and if they are fewer than eight the list ends there.
pub record WordsIn (xs : List ℕ) (n : ℕ) : Type 0 where
  pub few : n ≤ 8
  pub inside : n * 8 ≤ length xs
  pub ends : n < 8 → length xs ≤ n * 8

-- Words whose bytes were turned, so that byte x has the bits of column x: bit q is that of byte q.
pub record Columns (xs ts : List ℕ) : Type 0 where
  pub are : (k q : ℕ) → k < 64 → q < 8 → bit_of q (byte_of ts k) ≡ bit_of (7 - k % 8) (get_or xs (k / 8 * 8 + q) 0)

-- v, or 0.
unfoldable pub gate : Bool → ℕ → ℕ
gate true v = v
gate false v = 0

-- Word b of a side, where ws are the words of the other: bit j of it is bit j % 8 of number b * 8 + j / 8, if it has so many.
unfoldable pub word_from : Side → List ℕ → ℕ → ℕ
word_from s ws b =
    from_bits 64 0
    (λ j. gate (ltb (j % 8) s.bits)
    (bit_of (s.from (b * 8 + j / 8) (j % 8) % 8 * 8 + s.place (b * 8 + j / 8) (j % 8)) (get_or ws (s.from (b * 8 + j / 8) (j % 8) / 8) 0)))

-- The bytes of a word are f's from 8 * b on; and those of n words are its first.
abbrev pub HasWord : (ℕ → ℕ) → ℕ → ℕ → Type 0
HasWord f b w = (m : ℕ) → m < 8 → byte_in w m ≡ f (b * 8 + m)

abbrev pub HasWords : (ℕ → ℕ) → ℕ → List ℕ → Type 0
HasWords f n ws = (i : ℕ) → i < n → HasWord f i (get_or ws i 0)

-- Nibbles, of each two pixels the first moved up by u: by none, or by 4.
abbrev pub nibbles : ℕ → Layout
nibbles zero = low_first 8 8
nibbles (suc u) = high_first 8 8

-- A word turned: bit q of byte x is bit 7 - x of byte q.
abbrev pub column : Side
column = record { count = 8; bits = 8; from = λ x q. q; place = λ x q. 7 - x }

-- The pixels of eight planes in groups of g, out of words that were turned.
abbrev pub strands : ℕ → Side
strands g = record { count = 64; bits = 8; from = λ i p. (p / g * g + i / 8 * g / 8) * 8 + i % 8; place = λ i p. i / 8 * g % 8 + p % g }

-- The bytes of a cell out of its words, four planes of 32 bytes; and byte k of the cell itself.
abbrev pub cell : Side
cell = record { count = 128; bits = 8; from = λ k j. k % 32 * 8 + j; place = λ k j. k / 32 }

abbrev pub cell_byte : List ℕ → ℕ → ℕ → ℕ → ℕ
cell_byte xs from w k = from_bits 8 0 (λ j. bit_of (k / 32) (get_or xs (from + k % 32 / 2 * w + (k % 2 * 8 + j)) 0))

-- The pixels of eight bytes out of a word of each plane, four bits a pixel: word k has those of byte k.
abbrev pub quarter : Side
quarter = record { count = 64; bits = 4; from = λ i p. p * 8 + i / 8; place = λ i p. i % 8 }

-- Eight bytes of each plane as words, the first plane's from place from on; the words of their pixels; and those of a cell, two a row.
abbrev pub planes_at : List ℕ → ℕ → List ℕ
planes_at xs from = word_at false xs from ∷ word_at false xs (from + 32) ∷ word_at false xs (from + 64) ∷ word_at false xs (from + 96) ∷ []

abbrev pub quarter_words : List ℕ → ℕ → List ℕ
quarter_words xs from = each 8 (λ k. word_from quarter (planes_at xs from) k ∷ [])

abbrev pub cell_words : List ℕ → ℕ → List ℕ
cell_words xs from = each 4 (λ j. quarter_words xs (from + j * 8))

-- n words stored, each at its place.
unfoldable pub stored_at : ℕ → (ℕ → ℕ) → (ℕ → ℕ) → List ℕ → List ℕ
stored_at zero place word out = out
stored_at (suc n) place word out = sets (stored_at n place word out) (place n) (bytes_in (word n))

-- ---- the word functions' exchanges

-- The bits that m keeps change places with those s places above them; c keeps the others.
abbrev pub swapped : ℕ → ℕ → ℕ → ℕ → ℕ
swapped c m s w = bit_or (bit_or (bit_and w c) (bit_and w m * 2 ^ s % 2 ^ 64)) (bit_and (w / 2 ^ s) m)

-- Rows and columns of bits exchanged: bit j of byte k becomes bit k of byte j.
unfoldable pub crossed : ℕ → ℕ
crossed w =
    let a : ℕ = swapped 0xaa55aa55aa55aa55 0x00aa00aa00aa00aa 7 w in
    let b : ℕ = swapped 0xcccc3333cccc3333 0x0000cccc0000cccc 14 a in
    swapped 0xf0f0f0f00f0f0f0f 0x00000000f0f0f0f0 28 b

-- The bytes in reverse order.
unfoldable pub reversed_bytes : ℕ → ℕ
reversed_bytes w =
    let a : ℕ = bit_or (bit_and w 0x00ff00ff00ff00ff * 2 ^ 8 % 2 ^ 64) (bit_and (w / 2 ^ 8) 0x00ff00ff00ff00ff) in
    let b : ℕ = bit_or (bit_and a 0x0000ffff0000ffff * 2 ^ 16 % 2 ^ 64) (bit_and (a / 2 ^ 16) 0x0000ffff0000ffff) in
    bit_or (b * 2 ^ 32 % 2 ^ 64) (b / 2 ^ 32)

-- Fields of n bits of two words side by side; and by them the bits of pixels k and k + 4 of each byte, one of each plane.
unfoldable pub beside : ℕ → ℕ → ℕ → ℕ → ℕ → ℕ
beside s n m a b = bit_or (bit_and (a / 2 ^ s) m) (bit_and (b / 2 ^ s) m * 2 ^ n % 2 ^ 64)

unfoldable pub pixel_bits : ℕ → ℕ → ℕ → ℕ → ℕ → ℕ
pixel_bits a b c d k = beside (k / 2 * 2) 2 0x3333333333333333 (beside (k % 2) 1 0x5555555555555555 a b) (beside (k % 2) 1 0x5555555555555555 c d)

-- Fields moved up by u beside those s places above them, as far as m keeps them; by them the low two bits of eight pixels as two bytes, and the low
-- four as four bytes, of each two pixels the first moved up by u.
abbrev pub joined : ℕ → ℕ → ℕ → ℕ → ℕ
joined u s m w = bit_and (bit_or (w * 2 ^ u % 2 ^ 64) (w / 2 ^ s)) m

unfoldable pub row_pairs : ℕ → ℕ
row_pairs w = joined 8 32 0x000000000000ffff (joined 4 16 0x000000ff000000ff (joined 2 8 0x000f000f000f000f (bit_and w 0x0303030303030303)))

unfoldable pub row_nibbles : ℕ → ℕ → ℕ
row_nibbles u w =
    let two : ℕ = joined u (u + 4) 0x00ff00ff00ff00ff (bit_and w 0x0f0f0f0f0f0f0f0f) in
    let four : ℕ = bit_and (bit_or two (two / 2 ^ 8)) 0x0000ffff0000ffff in
    bit_and (bit_or four (four / 2 ^ 16)) 0x00000000ffffffff

-- Bit s of each byte of a word, moved up by u.
abbrev pub bits_up : ℕ → ℕ → ℕ → ℕ
bits_up s u w = bit_and (w / 2 ^ s) 0x0101010101010101 * 2 ^ u % 2 ^ 64

-- Bit s of each byte of eight words from place at on: bit k of a byte is that of word at + k.
unfoldable pub gathered : List ℕ → ℕ → ℕ → ℕ
gathered ws at s =
    let up : ℕ → ℕ = λ k. bits_up s k (get_or ws (at + k) 0) in
    let low : ℕ = bit_or (bit_or (bit_or (bit_and (get_or ws at 0 / 2 ^ s) 0x0101010101010101) (up 1)) (up 2)) (up 3) in
    bit_or (bit_or (bit_or (bit_or low (up 4)) (up 5)) (up 6)) (up 7)
