-- "Sixteen modes": the table of document 01.
-- Assumes nothing.
use Rattle.std.specs.Prelude.{ℕ, Bool, false, ◌||◌, List, [], ◌∷◌, eqb, get_or}

-- One mode's row. "None" is 0; flips and priority are how many bits each has in an entry, 1 or 0.
pub record Row : Type 0 where
  pub depths : List ℕ
  pub top : ℕ
  pub entry : ℕ
  pub tile : ℕ
  pub palette : ℕ
  pub flips : ℕ
  pub priority : ℕ

abbrev pub of : List ℕ → ℕ → ℕ → ℕ → ℕ → ℕ → ℕ → Row
of depths top entry tile palette flips priority =
    record { depths = depths; top = top; entry = entry; tile = tile; palette = palette; flips = flips; priority = priority }

-- depths, top, entry bytes, tile bits, palette bits, flips, priority. Ws has document 02's "nine tile bits".
abbrev pub rows : List Row
rows =
    of (2 ∷ 4 ∷ 8 ∷ []) 31 2 10 3 1 1  -- snes
    ∷ of (8 ∷ []) 31 1 8 0 0 0  -- snes_mode7
    ∷ of (1 ∷ 2 ∷ []) 3 1 8 0 0 0  -- gb
    ∷ of (1 ∷ 2 ∷ []) 31 2 9 3 1 1  -- gbc
    ∷ of (4 ∷ 8 ∷ []) 31 2 10 4 1 0  -- gba
    ∷ of (8 ∷ []) 31 1 8 0 0 0  -- gba_affine
    ∷ of (4 ∷ []) 7 2 11 2 1 1  -- md
    ∷ of (4 ∷ []) 3 2 9 1 1 1  -- sms
    ∷ of (4 ∷ []) 15 2 9 1 1 1  -- gg
    ∷ of (4 ∷ []) 7 2 12 4 0 0  -- pce
    ∷ of (4 ∷ []) 7 0 0 0 0 0  -- pce_sprite
    ∷ of (2 ∷ []) 7 2 9 1 1 0  -- ngp
    ∷ of (2 ∷ []) 15 2 9 4 1 0  -- ngpc
    ∷ of (2 ∷ []) 7 2 9 4 1 0  -- ws
    ∷ of (2 ∷ 4 ∷ []) 15 2 10 4 1 0  -- wsc
    ∷ of (4 ∷ []) 15 2 10 4 1 0  -- wsc_packed
    ∷ []

abbrev pub none : Row
none = of [] 0 0 0 0 0 0

unfoldable pub row : ℕ → Row
row m = get_or rows m none

abbrev pub one_of : ℕ → List ℕ → Bool
one_of d [] = false
one_of d (e ∷ es) = eqb d e || one_of d es

abbrev pub has_depth : ℕ → ℕ → Bool
has_depth m depth = one_of depth (row m).depths

-- The modes of which document 01 speaks by name.
abbrev pub snes : ℕ
snes = 0

abbrev pub gbc : ℕ
gbc = 3

abbrev pub md : ℕ
md = 6

abbrev pub pce-sprite : ℕ
pce-sprite = 10

abbrev pub ngp : ℕ
ngp = 11
