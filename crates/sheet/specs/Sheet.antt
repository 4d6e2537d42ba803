-- "The program reads eight lines in this order, each key=text and a newline: mode, depth, flip, discard, limit, palette, columns, rows. .. Then come
-- exactly 64 x columns x rows pixel bytes."
-- Assumes nothing.
use Rattle.std.specs.Prelude.{ℕ, ◌+◌, ◌*◌, ◌≤◌, ◌≡◌, List, [], ◌∷◌, ◌++◌, cond, ltb, eqb, length, get_or, take, drop, Option, Some, None}
use Rattle.words.specs.Bytes.{bit, same}
use Rattle.mode.specs.Names.{name_of, mode_named}
use Rattle.picture.specs.declared.Settings.{Settings}
use Rattle.sheet.specs.Keys.{key_of, line_of, newline, is_name}
use Rattle.sheet.specs.Numbers.{largest, decimal, number_in, at_most}
use Rattle.sheet.specs.declared.Line.{Line}
use Rattle.sheet.specs.declared.keys.Key.{Key}
use Rattle.sheet.specs.declared.keys.Key.TheVariants.{Mode, Depth, Flip, Discard, Limit, Palette, Columns, Rows}
use Rattle.sheet.specs.declared.Sheet.{Sheet}

-- A line of a sheet: its key, and the largest number that it tells.
abbrev pub line : Key → ℕ → Line
line key top = record { key = key; top = top }

-- "Columns and rows at most 32": so many.
abbrev pub side_most : ℕ
side_most = 32

-- The eight lines "in this order", "flip and discard 0 or 1". All that is read and written of a sheet's lines goes by such a list.
unfoldable pub sheet_lines : List Line
sheet_lines =
    line Mode 15
    ∷ line Depth largest
    ∷ line Flip 1
    ∷ line Discard 1
    ∷ line Limit largest
    ∷ line Palette largest
    ∷ line Columns side_most
    ∷ line Rows side_most
    ∷ []

-- "Mode names are compared byte by byte": "an unknown mode name" tells nothing.
abbrev pub mode_told : Option ℕ → Option ℕ
mode_told mode = mode

-- What the text of a line tells.
unfoldable pub text_says : Line → List ℕ → Option ℕ
text_says l text = cond (is_name l.key) (mode_told (mode_named text)) (at_most l.top (number_in text))

-- And the line: its key, then the text.
unfoldable pub line_says : Line → List ℕ → Option ℕ
line_says l bytes =
    cond (same (take (length (key_of l.key)) bytes) (key_of l.key)) (text_says l (drop (length (key_of l.key)) bytes)) None

-- How many bytes stand before the first newline.
unfoldable pub line_length : List ℕ → ℕ
line_length [] = 0
line_length (b ∷ bs) = cond (eqb b newline) 0 (1 + line_length bs)

-- What lines tell: a number each, and where they end; or one of them is not as it should be.
pub data Lines : Type 0 where
  Numbers : List ℕ → ℕ → Lines
  NoLines : Lines

abbrev pub lines_then : Option ℕ → (ℕ → Lines) → Lines
lines_then (Some v) more = more v
lines_then None more = NoLines

-- The lines from a place of s on; vs are the numbers of those before. A line has its newline.
unfoldable pub lines_from : List Line → List ℕ → ℕ → List ℕ → Lines
lines_from [] s at vs = Numbers vs at
lines_from (l ∷ ls) s at vs =
    cond (ltb (line_length (drop at s)) (length (drop at s)))
    (lines_then (line_says l (take (line_length (drop at s)) (drop at s)))
    (λ v. lines_from ls s (at + (line_length (drop at s) + 1)) (vs ++ v ∷ [])))
    NoLines

-- The settings that the eight lines' numbers give, in the lines' order, and the numbers that give settings.
unfoldable pub settings_of : List ℕ → Settings
settings_of vs =
    record {
      mode = get_or vs 0 0;
      depth = get_or vs 1 0;
      flip = eqb (get_or vs 2 0) 1;
      discard = eqb (get_or vs 3 0) 1;
      limit = get_or vs 4 0;
      palette = get_or vs 5 0;
      columns = get_or vs 6 0;
      rows = get_or vs 7 0;
    }

abbrev pub values_of : Settings → List ℕ
values_of z =
    z.mode ∷ z.depth ∷ bit z.flip ∷ bit z.discard ∷ z.limit ∷ z.palette ∷ z.columns ∷ z.rows ∷ []

abbrev pub sheet : Settings → ℕ → Sheet
sheet z at = record { settings = z; start = at }

abbrev pub sheet_of : Lines → Option Sheet
sheet_of (Numbers vs at) = Some (sheet (settings_of vs) at)
sheet_of NoLines = None

unfoldable pub lines_in : List ℕ → Option Sheet
lines_in s = sheet_of (lines_from sheet_lines s 0 [])

-- "Then come exactly 64 x columns x rows pixel bytes. Anything else .. is 14": the settings and where the pixels start, or neither.
abbrev pub with_pixels : ℕ → Option Sheet → Option Sheet
with_pixels size (Some read) = cond (eqb size (read.start + 64 * (read.settings.columns * read.settings.rows))) (Some read) None
with_pixels size None = None

unfoldable pub sheet_in : List ℕ → Option Sheet
sheet_in s = with_pixels (length s) (lines_in s)

-- Lines as a station writes them: a number each, the mode's by its name.
unfoldable pub text_for : Line → ℕ → List ℕ
text_for l v = cond (is_name l.key) (name_of v) (decimal v)

unfoldable pub lines_text : List Line → List ℕ → List ℕ
lines_text [] vs = []
lines_text (l ∷ ls) [] = []
lines_text (l ∷ ls) (v ∷ vs) = line_of l.key (text_for l v) ++ lines_text ls vs

unfoldable pub sheet_text : Settings → List ℕ
sheet_text z = lines_text sheet_lines (values_of z)

-- The numbers that lines can tell.
abbrev pub Within : List Line → List ℕ → Type 0
Within [] [] = Unit {0}
Within [] (v ∷ vs) = ⊥
Within (l ∷ ls) [] = ⊥
Within (l ∷ ls) (v ∷ vs) = (v ≤ l.top) × Within ls vs

-- An input that is a sheet and its pixels. Each such input is read, and no other (proofs/Exact): "Anything else .. is 14."
pub record IsSheet (z : Settings) (pixels s : List ℕ) : Type 0 where
  pub settings : Within sheet_lines (values_of z)
  pub whole : s ≡ sheet_text z ++ pixels
  pub size : length pixels ≡ 64 * (z.columns * z.rows)
