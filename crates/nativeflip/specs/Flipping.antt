-- Native tiles flipped: what is refused, the bytes, and the table.
-- Assumes nothing.
use Rattle.std.specs.Prelude.{not, List, [], ◌∷◌, ℕ, ◌-◌, ◌*◌, ltb, eqb}
use Rattle.words.specs.Answers.{◌when◌, first_applying}
use Rattle.mode.specs.Table.{has_depth, pce-sprite}
use Rattle.tile.specs.Bits.{bit_of, from_bits}
use Rattle.tile.specs.Tile.{packed, unpacked}
use Rattle.flip.specs.Flips.{flipped}
use Rattle.flip.specs.declared.Flip.{Flip}

-- "Refusals: 1, 2 for pce_sprite, 3, 7 for a length that is not one tile, 11 for a short output, in that order." A tile is 8x8, so that its bytes
-- are eight for each bit of its depth. In: the lengths of what is lent.
abbrev pub flip_checks : ℕ → ℕ → ℕ → ℕ → List ℕ
flip_checks m d len space =
    1 when ltb 15 m
    ∷ 2 when eqb m pce-sprite
    ∷ 3 when not (has_depth m d)
    ∷ 7 when not (eqb len (d * 8))
    ∷ 11 when ltb space (d * 8)
    ∷ []

unfoldable pub flip_says : ℕ → ℕ → ℕ → ℕ → ℕ
flip_says m d len space = first_applying (flip_checks m d len space)

-- "the native flip equals unpack, flip, pack"
unfoldable pub flipped_bytes : ℕ → ℕ → Flip → List ℕ → List ℕ
flipped_bytes m d f bytes = packed m d 8 8 (flipped f 8 8 (unpacked m d 8 8 bytes))

-- "a fixed table of 256 bytes, entry n being n with its eight bits in reverse order": entry n.
unfoldable pub reversed : ℕ → ℕ
reversed n = from_bits 8 0 (λ j. bit_of (7 - j) n)
