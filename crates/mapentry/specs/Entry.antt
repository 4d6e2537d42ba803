-- "Map entry bytes."
-- Assumes nothing.
use Rattle.std.specs.Prelude.{ℕ, ◌/◌, ◌^◌, ◌<◌, ◌≡◌, Bool, false, not, cond, ◌&&◌, List, [], ◌∷◌, ◌++◌, ltb, eqb, get_or, Option, Some, None}
use Rattle.words.specs.Answers.{◌when◌, first_applying, unless}
use Rattle.words.specs.Bytes.{bit, bytes_of, word_of}
use Rattle.words.specs.Fields.{Field, field, unused, join, split}
use Rattle.mode.specs.Table.{row, gbc, md, pce-sprite}
use Rattle.mapentry.specs.declared.Mapentry.{Mapentry}
use Rattle.mapentry.specs.declared.Entry.{Entry}
use Rattle.mapentry.specs.declared.Misfit.{Misfit}
use Rattle.mapentry.specs.declared.Misfit.TheVariants.{Tile, Palette, Flip, Priority}

-- What may stand in an entry's word: some bits of the tile index, of the palette index, priority, a flip.
abbrev tile : ℕ → Field
tile bits = field 0 bits

abbrev palette : ℕ → Field
palette bits = field 1 bits

abbrev h : Field
h = field 2 1

abbrev v : Field
v = field 3 1

abbrev priority : Field
priority = field 4 1

-- "First byte is the tile index's low 8 bits (md: second byte). The other byte, from bit 0": so the whole word, from bit 0, begins with 8 bits
-- of the tile index, and the fields of document 01 follow. Wsc and wsc_packed are "tile bit 8, palette 4, tile bit 9, h, v"; in ws "the bit at
-- place 5 of the second byte is not a tile bit" but unused.
abbrev pub layouts : List (List Field)
layouts =
    (tile 8 ∷ tile 2 ∷ palette 3 ∷ priority ∷ h ∷ v ∷ [])  -- snes
    ∷ (tile 8 ∷ [])  -- snes_mode7
    ∷ (tile 8 ∷ [])  -- gb
    ∷ (tile 8 ∷ palette 3 ∷ tile 1 ∷ unused 1 ∷ h ∷ v ∷ priority ∷ [])  -- gbc
    ∷ (tile 8 ∷ tile 2 ∷ h ∷ v ∷ palette 4 ∷ [])  -- gba
    ∷ (tile 8 ∷ [])  -- gba_affine
    ∷ (tile 8 ∷ tile 3 ∷ h ∷ v ∷ palette 2 ∷ priority ∷ [])  -- md
    ∷ (tile 8 ∷ tile 1 ∷ h ∷ v ∷ palette 1 ∷ priority ∷ unused 3 ∷ [])  -- sms
    ∷ (tile 8 ∷ tile 1 ∷ h ∷ v ∷ palette 1 ∷ priority ∷ unused 3 ∷ [])  -- gg
    ∷ (tile 8 ∷ tile 4 ∷ palette 4 ∷ [])  -- pce
    ∷ []  -- pce_sprite
    ∷ (tile 8 ∷ tile 1 ∷ unused 4 ∷ palette 1 ∷ v ∷ h ∷ [])  -- ngp
    ∷ (tile 8 ∷ tile 1 ∷ palette 4 ∷ unused 1 ∷ v ∷ h ∷ [])  -- ngpc
    ∷ (tile 8 ∷ tile 1 ∷ palette 4 ∷ unused 1 ∷ h ∷ v ∷ [])  -- ws
    ∷ (tile 8 ∷ tile 1 ∷ palette 4 ∷ tile 1 ∷ h ∷ v ∷ [])  -- wsc
    ∷ (tile 8 ∷ tile 1 ∷ palette 4 ∷ tile 1 ∷ h ∷ v ∷ [])  -- wsc_packed
    ∷ []

unfoldable pub layout : ℕ → List Field
layout m = get_or layouts m []

-- An entry's values, as the fields number them; nothing stands in the unused bits.
abbrev pub values_of : Mapentry → List ℕ
values_of e = e.tile ∷ e.palette ∷ bit e.flip_h ∷ bit e.flip_v ∷ bit e.priority ∷ 0 ∷ []

abbrev pub entry_with : List ℕ → Mapentry
entry_with vs =
    record { tile = get_or vs 0 0; palette = get_or vs 1 0; flip_h = eqb (get_or vs 2 0) 1; flip_v = eqb (get_or vs 3 0) 1; priority = eqb (get_or vs 4 0) 1 }

-- The word of an entry, and the entry of a word.
abbrev pub entry_word : ℕ → Mapentry → ℕ
entry_word m e = join (layout m) (values_of e)

abbrev pub entry_in : ℕ → ℕ → Mapentry
entry_in m word = entry_with (split (layout m) word)

abbrev pub most_first : ℕ → Bool
most_first m = eqb m md

abbrev pub entry_bytes : ℕ → Mapentry → List ℕ
entry_bytes m e = bytes_of (row m).entry (most_first m) (entry_word m e)

abbrev pub entry_of : ℕ → List ℕ → Mapentry
entry_of m bytes = entry_in m (word_of (most_first m) bytes)

-- The first field that its bits cannot hold, or "a flip or priority where there is none".
abbrev pub misfit_of : ℕ → Mapentry → Option Misfit
misfit_of m e =
    cond (not (ltb e.tile (2 ^ (row m).tile))) (Some Tile)
    (cond (not (ltb e.palette (2 ^ (row m).palette))) (Some Palette)
    (cond (not (ltb (bit e.flip_h) (2 ^ (row m).flips))) (Some Flip)
    (cond (not (ltb (bit e.flip_v) (2 ^ (row m).flips))) (Some Flip)
    (cond (not (ltb (bit e.priority) (2 ^ (row m).priority))) (Some Priority)
    None))))

-- "15 tile, 16 palette, 17 flip, 18 priority": the one place that knows the fields' numbers.
abbrev pub misfit_says : Option Misfit → ℕ
misfit_says (Some Tile) = 15
misfit_says (Some Palette) = 16
misfit_says (Some Flip) = 17
misfit_says (Some Priority) = 18
misfit_says None = 0

-- The checks of every call that takes an entry; the fields are "checked in that order where 10 stood".
abbrev pub entry_checks : ℕ → Mapentry → List ℕ
entry_checks m e = 1 when ltb 15 m ∷ 2 when eqb m pce-sprite ∷ misfit_says (misfit_of m e) ∷ []

unfoldable pub entry_says : ℕ → Mapentry → ℕ
entry_says m e = first_applying (entry_checks m e)

-- An entry that passes them.
pub record IsEntry (m : ℕ) (e : Mapentry) : Type 0 where
  pub mode : m < 16
  pub map : m ≡ pce-sprite → ⊥
  pub fits : misfit_of m e ≡ None

abbrev pub pack_checks : ℕ → Mapentry → ℕ → List ℕ
pack_checks m e space = entry_checks m e ++ 11 when ltb space (row m).entry ∷ []

unfoldable pub pack_says : ℕ → Mapentry → ℕ → ℕ
pack_says m e space = first_applying (pack_checks m e space)

abbrev pub read_checks : ℕ → ℕ → List ℕ
read_checks m len = 1 when ltb 15 m ∷ 2 when eqb m pce-sprite ∷ 7 when not (eqb len (row m).entry) ∷ []

unfoldable pub read_says : ℕ → ℕ → ℕ
read_says m len = first_applying (read_checks m len)

-- What reading answers: "all else returned 0 or nothing" where it is refused.
abbrev pub blank : Mapentry
blank = record { tile = 0; palette = 0; flip_h = false; flip_v = false; priority = false }

abbrev pub entry_answer : ℕ → Mapentry → Entry
entry_answer n e =
    record { refusal = n; tile = e.tile; palette = e.palette; flip_h = e.flip_h; flip_v = e.flip_v; priority = e.priority }

abbrev pub entered : ℕ → Mapentry → Entry
entered n e = entry_answer n (unless n e blank)

-- "`get_tile_index` gives two bytes, low first, where tile bits exceed 8, gbc one."
abbrev pub index_size : ℕ → ℕ
index_size m = cond (ltb 8 (row m).tile && not (eqb m gbc)) 2 1

abbrev pub index_bytes : ℕ → Mapentry → List ℕ
index_bytes m e = bytes_of (index_size m) false e.tile

abbrev pub index_checks : ℕ → Mapentry → ℕ → List ℕ
index_checks m e space = entry_checks m e ++ 11 when ltb space (index_size m) ∷ []

unfoldable pub index_says : ℕ → Mapentry → ℕ → ℕ
index_says m e space = first_applying (index_checks m e space)

-- "`get_attribute` keeps the non-tile bits of the second byte (md: the first; gbc: tile bit 8 too .. 0 where an entry has one byte": what is left
-- above the low byte of the word, of an entry without its tile index.
abbrev pub without_tile : ℕ → Mapentry → Mapentry
without_tile m e =
    record { tile = cond (eqb m gbc) e.tile 0; palette = e.palette; flip_h = e.flip_h; flip_v = e.flip_v; priority = e.priority }

abbrev pub attribute_of : ℕ → Mapentry → ℕ
attribute_of m e = entry_word m (without_tile m e) / 256
