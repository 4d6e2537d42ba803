-- The mode 7 block: "16,384 pairs, in each pair the even byte from a 128 by 128 map, the odd byte from the 256 tiles of 64 pixels."
-- Assumes nothing.
use Rattle.std.specs.Prelude.{not, List, [], ◌∷◌, ◌++◌, ℕ, ◌+◌, ◌*◌, ◌-◌, ltb, eqb, length, get_or, replicate}
use Rattle.words.specs.Answers.{◌when◌, first_applying, Wrote}
use Rattle.words.specs.declared.Written.{Written}
use Rattle.words.specs.Loops.{each}

-- As many as a 128 by 128 map has bytes, and as 256 tiles of 64 have.
abbrev pub pair_count : ℕ
pair_count = 16384

-- "Make it from tile bytes and map bytes that may be shorter, filling with 0": an input's byte is 0 where it has ended.
abbrev pub pair_of : List ℕ → List ℕ → ℕ → List ℕ
pair_of tiles map i = get_or map i 0 ∷ get_or tiles i 0 ∷ []

unfoldable pub block_of : List ℕ → List ℕ → List ℕ
block_of tiles map = each pair_count (pair_of tiles map)

-- "split a block into its two halves"
unfoldable pub tile_half : List ℕ → List ℕ
tile_half block = each pair_count (λ i. get_or block (i * 2 + 1) 0 ∷ [])

unfoldable pub map_half : List ℕ → List ℕ
map_half block = each pair_count (λ i. get_or block (i * 2) 0 ∷ [])

-- "Refusals: 7 for more than 16,384 bytes on either side, or a block of another length; 11 for short outputs." In: the lengths of what is lent.
abbrev pub make_checks : ℕ → ℕ → ℕ → List ℕ
make_checks tiles map space =
    7 when ltb pair_count tiles
    ∷ 7 when ltb pair_count map
    ∷ 11 when ltb space (pair_count * 2)
    ∷ []

unfoldable pub make_says : ℕ → ℕ → ℕ → ℕ
make_says tiles map space = first_applying (make_checks tiles map space)

abbrev pub split_checks : ℕ → ℕ → ℕ → List ℕ
split_checks block tile_space map_space =
    7 when not (eqb block (pair_count * 2))
    ∷ 11 when ltb tile_space pair_count
    ∷ 11 when ltb map_space pair_count
    ∷ []

unfoldable pub split_says : ℕ → ℕ → ℕ → ℕ
split_says block tile_space map_space = first_applying (split_checks block tile_space map_space)

-- The promise of a split: either half is written as any call writes bytes, and one answer tells of both.
pub record Splits (refusal : ℕ) (block tiles map : List ℕ) (r : Written) (tiles_after map_after : List ℕ) : Type 0 where
  pub of_tiles : Wrote refusal (tile_half block) tiles r tiles_after
  pub of_map : Wrote refusal (map_half block) map r map_after

-- "make then split returns the inputs with the 0 fill": an input with it.
abbrev pub with_zeros : List ℕ → List ℕ
with_zeros bytes = bytes ++ replicate (pair_count - length bytes) 0
