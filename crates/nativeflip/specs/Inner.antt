-- Inner shapes: what the code and its proofs compute on the way; no promise and no law reaches it.
-- Assumes nothing.
use Rattle.std.specs.Prelude.{◌≡◌, Bool, true, false, cond, List, [], ◌∷◌, ℕ, ◌+◌, ◌-◌, ◌*◌, ◌/◌, ◌%◌, ◌^◌, ◌≤◌, ◌<◌, T, length, get_or}
use Rattle.std.specs.Int.Bits.{bit_and, bit_or}
use Rattle.words.specs.Inner.{byte_in}
use Rattle.mode.specs.Table.{one_of}
use Rattle.tile.specs.Bits.{bit_of, from_bits}
use Rattle.tile.specs.Layout.{Side}
use Rattle.tile.specs.Inner.{byte_count, is_packing}
use Rattle.tile.specs.declared.Packing.{Packing}
use Rattle.tile.specs.declared.Packing.TheVariants.{Planar, Ngp, LowFirst, HighFirst, Plain, Sprite}
use Rattle.nativeflip.specs.Flipping.{reversed}

-- ---- rows: n bytes each, eight rows in n words, 8 / n rows in a word

abbrev pub is_row : ℕ → Bool
is_row n = one_of n (1 ∷ 2 ∷ 4 ∷ 8 ∷ [])

-- Those of pixels, n bits each, which stand one after the other.
abbrev pub is_pixel_row : ℕ → Bool
is_pixel_row n = one_of n (2 ∷ 4 ∷ 8 ∷ [])

-- Place x where each n places are in reverse order; and of eight places, where their parts of n are.
abbrev pub each_back : ℕ → ℕ → ℕ
each_back n x = x / n * n + (n - 1 - x % n)

abbrev pub parts_back : ℕ → ℕ → ℕ
parts_back n x = (8 / n - 1 - x / n) * n + x % n

-- Where word b and byte k of a tile come from whose rows are in reverse order, or not; and the byte.
abbrev pub word_place : ℕ → Bool → ℕ → ℕ
word_place n down b = cond down (each_back n b) b

abbrev pub row_place : ℕ → Bool → ℕ → ℕ
row_place n down k = cond down (each_back n (k / 8) * 8 + parts_back n (k % 8)) k

abbrev pub byte_from : ℕ → Bool → List ℕ → ℕ → ℕ
byte_from n down bytes k = get_or bytes (row_place n down k) 0

-- A byte whose fields of n bits are in reverse order.
abbrev pub fields_back : ℕ → ℕ → ℕ
fields_back n b = from_bits 8 0 (λ j. bit_of (parts_back n j) b)

-- Words: the fields that m keeps change places with those s places above them; the rows in reverse order; the pixels of each byte; the bits.
abbrev pub exchanged : ℕ → ℕ → ℕ → ℕ
exchanged m s w = bit_or (bit_and w m * 2 ^ s % 2 ^ 64) (bit_and (w / 2 ^ s) m)

abbrev pub RowsBack : ℕ → ℕ → ℕ → Type 0
RowsBack n w r = (m : ℕ) → m < 8 → byte_in r m ≡ byte_in w (parts_back n m)

abbrev pub FieldsBack : ℕ → ℕ → ℕ → Type 0
FieldsBack n w r = (m : ℕ) → m < 8 → byte_in r m ≡ fields_back n (byte_in w m)

abbrev pub BitsBack : ℕ → ℕ → Type 0
BitsBack w r = (m : ℕ) → m < 8 → byte_in r m ≡ reversed (byte_in w m)

-- ---- the bytes of a flipped tile, as a side whose other side is the bytes of the tile

-- "Planar rows flip by a fixed table": the planes stay where they are in a row. Rows are in reverse order, or not; so are the bits of each byte.
abbrev pub planes_turned : ℕ → Bool → Bool → ℕ → Side
planes_turned n across down size = record { count = size; bits = 8; from = λ k j. row_place n down k; place = λ k j. cond across (7 - j) j }

-- "The nibble and two-bit modes swap their own small fields": the pixels of each row are in reverse order, or not.
abbrev pub pixels_turned : ℕ → Bool → Bool → ℕ → Side
pixels_turned n across down size =
    record {
      count = size;
      bits = 8;
      from = λ k j. row_place n down (cond across (k / 8 * 8 + each_back n (k % 8)) k);
      place = λ k j. cond across (parts_back n j) j;
    }

-- ---- what the functions ask

pub record Reverses (table : List ℕ) : Type 0 where
  pub entry : (n : ℕ) → n < 256 → get_or table n 0 ≡ reversed n

-- A tile's words, in whole groups of n; of pixels where each row is in reverse order.
pub record HasWords (n : ℕ) (across : Bool) (bytes : List ℕ) : Type 0 where
  pub row : T (is_row n)
  pub pixels : across ≡ true → T (is_pixel_row n)
  pub groups : length bytes / 8 % n ≡ 0
  pub few : length bytes ≤ 64

-- So many words, and room for them.
pub record HasRows (n words : ℕ) (across : Bool) (bytes out : List ℕ) : Type 0 where
  pub has : HasWords n across bytes
  pub whole : length bytes ≡ words * 8
  pub space : length bytes ≤ length out

-- The packings of 8x8 tiles.
abbrev pub is_cell : Packing → Bool
is_cell (Planar g d) = is_packing (Planar g d)
is_cell Ngp = true
is_cell LowFirst = true
is_cell HighFirst = true
is_cell Plain = true
is_cell (Sprite w h) = false

pub record HasTile (p : Packing) (bytes out : List ℕ) : Type 0 where
  pub cell : T (is_cell p)
  pub whole : length bytes ≡ byte_count p
  pub space : length bytes ≤ length out
