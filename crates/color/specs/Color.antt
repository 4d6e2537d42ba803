-- "Colour bytes." A colour is four bytes r, g, b, a; colour i of a list begins at 4 x i.
-- Assumes nothing.
use Rattle.std.specs.Prelude.{ℕ, ◌+◌, ◌*◌, ◌-◌, ◌/◌, ◌%◌, ◌<◌, ◌≡◌, Bool, true, false, not, cond, ◌||◌, List, [], ◌∷◌, ltb, eqb, length, get_or, take, drop}
use Rattle.words.specs.Answers.{◌when◌, first_applying}
use Rattle.words.specs.Bytes.{bytes_of, word_of}
use Rattle.words.specs.Fields.{Field, field, unused, join, split}
use Rattle.words.specs.Loops.{each, some}
use Rattle.mode.specs.Table.{row, ngp}

-- How a mode packs colours: whether a word holds grays, and four of them; its bytes, and whether the most stands first; its fields from bit 0.
pub record Coloring : Type 0 where
  pub gray : Bool
  pub four : Bool
  pub size : ℕ
  pub most : Bool
  pub fields : List Field

abbrev red : ℕ → Field
red bits = field 0 bits

abbrev green : ℕ → Field
green bits = field 1 bits

abbrev blue : ℕ → Field
blue bits = field 2 bits

-- Gray k of a word.
abbrev gray : ℕ → ℕ → Field
gray k bits = field k bits

-- "Words, least byte first except md."
abbrev word : List Field → Coloring
word fields = record { gray = false; four = false; size = 2; most = false; fields = fields }

abbrev md_word : List Field → Coloring
md_word fields = record { gray = false; four = false; size = 2; most = true; fields = fields }

-- "Sms: one byte." "Ngp any number, one byte each."
abbrev byte : List Field → Coloring
byte fields = record { gray = false; four = false; size = 1; most = false; fields = fields }

abbrev gray_byte : List Field → Coloring
gray_byte fields = record { gray = true; four = false; size = 1; most = false; fields = fields }

-- "Gb exactly four colours, two bits each from the bottom"; "ws exactly four, four bits each, 7 - r, two bytes".
abbrev four_grays : ℕ → List Field → Coloring
four_grays size fields = record { gray = true; four = true; size = size; most = false; fields = fields }

-- In the order of the modes: "snes, snes_mode7, gbc, gba, gba_affine r + 32g + 1024b; gg, wsc, wsc_packed 256r + 16g + b; ngpc r + 16g + 256b;
-- pce, pce_sprite b + 8r + 64g; md, most byte first, 2r + 32g + 512b. Sms: one byte r + 4g + 16b." A gray of ws, 7 at most, leaves the last of
-- its four bits unused.
abbrev pub colorings : List Coloring
colorings =
    word (red 5 ∷ green 5 ∷ blue 5 ∷ unused 1 ∷ [])  -- snes
    ∷ word (red 5 ∷ green 5 ∷ blue 5 ∷ unused 1 ∷ [])  -- snes_mode7
    ∷ four_grays 1 (gray 0 2 ∷ gray 1 2 ∷ gray 2 2 ∷ gray 3 2 ∷ [])  -- gb
    ∷ word (red 5 ∷ green 5 ∷ blue 5 ∷ unused 1 ∷ [])  -- gbc
    ∷ word (red 5 ∷ green 5 ∷ blue 5 ∷ unused 1 ∷ [])  -- gba
    ∷ word (red 5 ∷ green 5 ∷ blue 5 ∷ unused 1 ∷ [])  -- gba_affine
    ∷ md_word (unused 1 ∷ red 3 ∷ unused 1 ∷ green 3 ∷ unused 1 ∷ blue 3 ∷ unused 4 ∷ [])  -- md
    ∷ byte (red 2 ∷ green 2 ∷ blue 2 ∷ unused 2 ∷ [])  -- sms
    ∷ word (blue 4 ∷ green 4 ∷ red 4 ∷ unused 4 ∷ [])  -- gg
    ∷ word (blue 3 ∷ red 3 ∷ green 3 ∷ unused 7 ∷ [])  -- pce
    ∷ word (blue 3 ∷ red 3 ∷ green 3 ∷ unused 7 ∷ [])  -- pce_sprite
    ∷ gray_byte (gray 0 3 ∷ unused 5 ∷ [])  -- ngp
    ∷ word (red 4 ∷ green 4 ∷ blue 4 ∷ unused 4 ∷ [])  -- ngpc
    ∷ four_grays 2 (gray 0 3 ∷ unused 1 ∷ gray 1 3 ∷ unused 1 ∷ gray 2 3 ∷ unused 1 ∷ gray 3 3 ∷ unused 1 ∷ [])  -- ws
    ∷ word (blue 4 ∷ green 4 ∷ red 4 ∷ unused 4 ∷ [])  -- wsc
    ∷ word (blue 4 ∷ green 4 ∷ red 4 ∷ unused 4 ∷ [])  -- wsc_packed
    ∷ []

unfoldable pub coloring : ℕ → Coloring
coloring m = get_or colorings m (word [])

-- ---- packing

-- "Gray modes read red only", and keep top - r.
abbrev pub gray_of : ℕ → List ℕ → ℕ → ℕ
gray_of m cs i = (row m).top - get_or cs (4 * i) 0

-- The values of colour i in a word of its own, and of four colours in one word. "Packing ignores alpha."
abbrev pub values_of : ℕ → List ℕ → ℕ → List ℕ
values_of m cs i =
    cond (coloring m).gray (gray_of m cs i ∷ 0 ∷ 0 ∷ 0 ∷ 0 ∷ 0 ∷ [])
    (get_or cs (4 * i) 0 ∷ get_or cs (4 * i + 1) 0 ∷ get_or cs (4 * i + 2) 0 ∷ 0 ∷ 0 ∷ 0 ∷ [])

abbrev pub four_values : ℕ → List ℕ → List ℕ
four_values m cs = gray_of m cs 0 ∷ gray_of m cs 1 ∷ gray_of m cs 2 ∷ gray_of m cs 3 ∷ 0 ∷ 0 ∷ []

abbrev pub bytes_with : ℕ → List ℕ → List ℕ
bytes_with m vs = bytes_of (coloring m).size (coloring m).most (join (coloring m).fields vs)

unfoldable pub packed : ℕ → List ℕ → List ℕ
packed m cs =
    cond (coloring m).four (bytes_with m (four_values m cs)) (each (length cs / 4) (λ i. bytes_with m (values_of m cs i)))

-- "A component r, g or b above the top, gray modes included."
abbrev pub above : ℕ → List ℕ → ℕ → Bool
above top cs i = ltb top (get_or cs (4 * i) 0) || (ltb top (get_or cs (4 * i + 1) 0) || ltb top (get_or cs (4 * i + 2) 0))

-- Whole colours; "exactly four" where a word has four.
abbrev pub packable : Bool → ℕ → Bool
packable four len = cond four (eqb len 16) (eqb (len % 4) 0)

-- The bytes of one word of four, or of a word for each colour.
abbrev pub packed_size : Bool → ℕ → ℕ → ℕ
packed_size four size len = cond four size (len / 4 * size)

abbrev pub pack_checks : ℕ → List ℕ → ℕ → List ℕ
pack_checks m cs space =
    1 when ltb 15 m
    ∷ 7 when not (packable (coloring m).four (length cs))
    ∷ 9 when some (length cs / 4) (above (row m).top cs)
    ∷ 11 when ltb space (packed_size (coloring m).four (coloring m).size (length cs))
    ∷ []

unfoldable pub pack_says : ℕ → List ℕ → ℕ → ℕ
pack_says m cs space = first_applying (pack_checks m cs space)

-- ---- unpacking

-- The values of word i of the bytes. "Unpacking ignores unused bits": value 5.
abbrev pub values_in : ℕ → List ℕ → ℕ → List ℕ
values_in m bs i =
    split (coloring m).fields (word_of (coloring m).most (take (coloring m).size (drop (i * (coloring m).size) bs)))

-- "And gives alpha 255."
abbrev pub opaque : ℕ → ℕ → ℕ → List ℕ
opaque r g b = r ∷ g ∷ b ∷ 255 ∷ []

abbrev pub shade : ℕ → ℕ → List ℕ
shade m value = opaque ((row m).top - value) ((row m).top - value) ((row m).top - value)

-- The colour of a word of its own, and the four of one word.
abbrev pub color_with : ℕ → List ℕ → List ℕ
color_with m vs =
    cond (coloring m).gray (shade m (get_or vs 0 0)) (opaque (get_or vs 0 0) (get_or vs 1 0) (get_or vs 2 0))

abbrev pub four_with : ℕ → List ℕ → List ℕ
four_with m vs = each 4 (λ k. shade m (get_or vs k 0))

unfoldable pub unpacked : ℕ → List ℕ → List ℕ
unpacked m bs =
    cond (coloring m).four (four_with m (values_in m bs 0)) (each (length bs / (coloring m).size) (λ i. color_with m (values_in m bs i)))

-- Whole words; one where it has four colours; "ngp .. unpacking takes exactly four bytes".
abbrev pub unpackable : ℕ → ℕ → Bool
unpackable m len = cond (coloring m).four (eqb len (coloring m).size) (cond (eqb m ngp) (eqb len 4) (eqb (len % (coloring m).size) 0))

-- Four colours of one word, or one of each.
abbrev pub color_count : Bool → ℕ → ℕ → ℕ
color_count four size len = cond four 4 (len / size)

abbrev pub unpack_checks : ℕ → ℕ → ℕ → List ℕ
unpack_checks m len space =
    1 when ltb 15 m
    ∷ 7 when not (unpackable m len)
    ∷ 11 when ltb space (4 * color_count (coloring m).four (coloring m).size len)
    ∷ []

unfoldable pub unpack_says : ℕ → ℕ → ℕ → ℕ
unpack_says m len space = first_applying (unpack_checks m len space)

-- ---- both ways

-- "Colours return where alpha is 255 and, in gray modes, r = g = b."
pub record Returning (m : ℕ) (cs : List ℕ) : Type 0 where
  pub alpha : (i : ℕ) → i < length cs / 4 → get_or cs (4 * i + 3) 0 ≡ 255
  pub same : (coloring m).gray ≡ true → (i : ℕ) → i < length cs / 4 → (get_or cs (4 * i + 1) 0 ≡ get_or cs (4 * i) 0) × (get_or cs (4 * i + 2) 0 ≡ get_or cs (4 * i) 0)
