-- The modes' names, "compared byte by byte".
-- Assumes nothing.
use Rattle.std.specs.Prelude.{ℕ, zero, suc, ◌+◌, cond, List, [], ◌∷◌, get_or, Option, Some, None}
use Rattle.words.specs.Bytes.{same}

-- snes, snes_mode7, gb, gbc, gba, gba_affine, md, sms, gg, pce, pce_sprite, ngp, ngpc, ws, wsc, wsc_packed
abbrev pub names : List (List ℕ)
names =
    (115 ∷ 110 ∷ 101 ∷ 115 ∷ [])
    ∷ (115 ∷ 110 ∷ 101 ∷ 115 ∷ 95 ∷ 109 ∷ 111 ∷ 100 ∷ 101 ∷ 55 ∷ [])
    ∷ (103 ∷ 98 ∷ [])
    ∷ (103 ∷ 98 ∷ 99 ∷ [])
    ∷ (103 ∷ 98 ∷ 97 ∷ [])
    ∷ (103 ∷ 98 ∷ 97 ∷ 95 ∷ 97 ∷ 102 ∷ 102 ∷ 105 ∷ 110 ∷ 101 ∷ [])
    ∷ (109 ∷ 100 ∷ [])
    ∷ (115 ∷ 109 ∷ 115 ∷ [])
    ∷ (103 ∷ 103 ∷ [])
    ∷ (112 ∷ 99 ∷ 101 ∷ [])
    ∷ (112 ∷ 99 ∷ 101 ∷ 95 ∷ 115 ∷ 112 ∷ 114 ∷ 105 ∷ 116 ∷ 101 ∷ [])
    ∷ (110 ∷ 103 ∷ 112 ∷ [])
    ∷ (110 ∷ 103 ∷ 112 ∷ 99 ∷ [])
    ∷ (119 ∷ 115 ∷ [])
    ∷ (119 ∷ 115 ∷ 99 ∷ [])
    ∷ (119 ∷ 115 ∷ 99 ∷ 95 ∷ 112 ∷ 97 ∷ 99 ∷ 107 ∷ 101 ∷ 100 ∷ [])
    ∷ []

unfoldable pub name_of : ℕ → List ℕ
name_of m = get_or names m []

-- The first mode from m on, of k, that the bytes name.
abbrev pub named_from : List ℕ → ℕ → ℕ → Option ℕ
named_from s m zero = None
named_from s m (suc k) = cond (same s (name_of m)) (Some m) (named_from s (m + 1) k)

abbrev pub mode_named : List ℕ → Option ℕ
mode_named s = named_from s 0 16
