-- Split then make returns the block; make then split returns the inputs with the 0 fill: of the bytes, and of what a caller sees of the calls.
-- Assumes nothing.
use mathlib.Core.Path.{◌≡◌, refl, sym, ap, ◌∙◌}
use mathlib.Core.List.{List, [], ◌∷◌, ◌++◌}
use Prim.Native.Nat.{ℕ, zero, suc, ◌+◌, ◌*◌, ◌-◌, ◌≤◌}
use native.Mathlib.Nat.{add-zero}
use native.Mathlib.Numerals.{add-one}
use native.Mathlib.Omega.{arith}
use lib.Dec.{ltb}
use lib.ListN.{length, get_or, take, drop, replicate, replicate-append-replicate, get_or-eq_default}
use Rattle.words.specs.Answers.{◌when◌, first_applying, Wrote}
use Rattle.words.specs.Loops.{each}
use Rattle.words.specs.declared.Written.{Written}
use Rattle.words.proofs.Answers.{last-given, done-written}
use Rattle.words.proofs.Loops.{length-each}
use Rattle.words.proofs.Items.{each-eq, each-add, item-get_or, item-inside, length-ones, number_at, whole_parts}
use Rattle.words.proofs.Filling.{each_of, each_part}
use Rattle.mode7.specs.Block.{pair_count, pair_of, block_of, tile_half, map_half, make_says, split_says, Splits, with_zeros}
use Rattle.mode7.proofs.Says.{made-fits, split-fits}

-- ---- how long they are

pub block-length : (tiles map : List ℕ) → length (block_of tiles map) ≡ pair_count * 2
unfolding block_of
block-length tiles map = length-each pair_count 2 (pair_of tiles map) (λ i. refl)

pub tile-half-length : (block : List ℕ) → length (tile_half block) ≡ pair_count
unfolding tile_half
tile-half-length block = length-ones pair_count (λ i. get_or block (i * 2 + 1) 0)

pub map-half-length : (block : List ℕ) → length (map_half block) ≡ pair_count
unfolding map_half
map-half-length block = length-ones pair_count (λ i. get_or block (i * 2) 0)

-- ---- split then make

-- two bytes of a list, by their places
two : (l : List ℕ) (at : ℕ) → at + 2 ≤ length l → get_or l at 0 ∷ get_or l (at + 1) 0 ∷ [] ≡ take 2 (drop at l)
two l at inside = ap (λ (k : ℕ). get_or l k 0 ∷ get_or l (at + 1) 0 ∷ []) (sym (add-zero at)) ∙ each_part l at 2 inside

module _ (n : ℕ) (block : List ℕ) (long : length block ≡ n * 2) where
  abbrev firsts : List ℕ
  firsts = each n (λ i. get_or block (i * 2) 0 ∷ [])

  abbrev seconds : List ℕ
  seconds = each n (λ i. get_or block (i * 2 + 1) 0 ∷ [])

  pairs-again : each n (pair_of seconds firsts) ≡ block
  pairs-again =
      each-eq n (pair_of seconds firsts) (λ i. take 2 (drop (i * 2) block))
      (λ i lt.
      ap (λ (v : ℕ). v ∷ get_or seconds i 0 ∷ []) (number_at n (λ i. get_or block (i * 2) 0) i lt)
      ∙ ap (λ (v : ℕ). get_or block (i * 2) 0 ∷ v ∷ []) (number_at n (λ i. get_or block (i * 2 + 1) 0) i lt)
      ∙ two block (i * 2) (omega (arith, item-inside 2 n i lt)))
      ∙ whole_parts 2 n block long

pub split-then-make : (block : List ℕ) → length block ≡ pair_count * 2 → block_of (tile_half block) (map_half block) ≡ block
unfolding block_of tile_half map_half
split-then-make block long = pairs-again pair_count block long

-- ---- make then split

zeros : (n : ℕ) → each n (λ i. 0 ∷ []) ≡ replicate n 0
zeros zero = refl
zeros (suc n) = ap (λ (l : List ℕ). l ++ 0 ∷ []) (zeros n) ∙ replicate-append-replicate n 1 0 ∙ ap (λ (k : ℕ). replicate k 0) (add-one n)

-- bytes read by their places, past their end too
filled-up : (n : ℕ) (bytes : List ℕ) → length bytes ≤ n → each n (λ i. get_or bytes i 0 ∷ []) ≡ bytes ++ replicate (n - length bytes) 0
filled-up n bytes fits =
    let byte : ℕ → List ℕ = λ i. get_or bytes i 0 ∷ [] in
    let more : ℕ = n - length bytes in
    let all : n ≡ length bytes + more = omega arith in
    ap (λ (k : ℕ). each k byte) all
    ∙ each-add (length bytes) more byte
    ∙ ap (λ (l : List ℕ). l ++ each more (λ j. byte (length bytes + j))) (each_of bytes)
    ∙ ap (λ (l : List ℕ). bytes ++ l)
    (each-eq more (λ j. byte (length bytes + j)) (λ j. 0 ∷ []) (λ j lt. ap (λ (v : ℕ). v ∷ []) (get_or-eq_default bytes 0 (omega arith)))
    ∙ zeros more)

module _ (n : ℕ) (tiles map : List ℕ) where
  abbrev woven : List ℕ
  woven = each n (pair_of tiles map)

  odds-back : each n (λ i. get_or woven (i * 2 + 1) 0 ∷ []) ≡ each n (λ i. get_or tiles i 0 ∷ [])
  odds-back =
      each-eq n (λ i. get_or woven (i * 2 + 1) 0 ∷ []) (λ i. get_or tiles i 0 ∷ [])
      (λ i lt. ap (λ (v : ℕ). v ∷ []) (item-get_or 2 (pair_of tiles map) (λ j. refl) n i lt 1 (omega arith)))

  evens-back : each n (λ i. get_or woven (i * 2) 0 ∷ []) ≡ each n (λ i. get_or map i 0 ∷ [])
  evens-back =
      each-eq n (λ i. get_or woven (i * 2) 0 ∷ []) (λ i. get_or map i 0 ∷ [])
      (λ i lt.
      ap (λ (v : ℕ). v ∷ [])
      (ap (λ (k : ℕ). get_or woven k 0) (sym (add-zero (i * 2))) ∙ item-get_or 2 (pair_of tiles map) (λ j. refl) n i lt 0 (omega arith)))

module _ (tiles map : List ℕ) where
  pub make-then-tiles : length tiles ≤ pair_count → tile_half (block_of tiles map) ≡ with_zeros tiles
  unfolding block_of tile_half
  make-then-tiles fits = odds-back pair_count tiles map ∙ filled-up pair_count tiles fits

  pub make-then-map : length map ≤ pair_count → map_half (block_of tiles map) ≡ with_zeros map
  unfolding block_of map_half
  make-then-map fits = evens-back pair_count tiles map ∙ filled-up pair_count map fits

-- ---- of the calls: what one wrote the other takes, and refuses only for a short output

pub halves-taken : (block : List ℕ) (space : ℕ) → make_says (length (tile_half block)) (length (map_half block)) space ≡ 11 when ltb space (pair_count * 2)
unfolding make_says
halves-taken block space = rw (tile-half-length block, map-half-length block) (sym (last-given (11 when ltb space (pair_count * 2))))

pub block-taken : (tiles map : List ℕ) (tile_space map_space : ℕ)
    → split_says (length (block_of tiles map)) tile_space map_space ≡ first_applying (11 when ltb tile_space pair_count ∷ 11 when ltb map_space pair_count ∷ [])
unfolding split_says
block-taken tiles map tile_space map_space = rw (block-length tiles map)

-- a caller splits a block, and makes one of what was written
pub split-make-written : (block tiles map out : List ℕ) {tiles_after map_after out_after : List ℕ} {r s : Written}
    → Splits (split_says (length block) (length tiles) (length map)) block tiles map r tiles_after map_after
    → r.refusal ≡ 0
    → let odds = take r.written tiles_after in let evens = take r.written map_after in
    Wrote (make_says (length odds) (length evens) (length out)) (block_of odds evens) out s out_after
    → s.refusal ≡ 0
    → take s.written out_after ≡ block
split-make-written block tiles map out {map_after = map_after} {r = r} halves split wrote made =
    let number : split_says (length block) (length tiles) (length map) ≡ 0 = sym (ap (λ (x : Written). x.refusal) halves.of_tiles.answer) ∙ split in
    (done-written wrote made).0
    ∙ ap (λ (l : List ℕ). block_of l (take r.written map_after)) (done-written halves.of_tiles split).0
    ∙ ap (λ (l : List ℕ). block_of (tile_half block) l) (done-written halves.of_map split).0
    ∙ split-then-make block (split-fits (length block) (length tiles) (length map) number).whole

-- and makes one, and splits what was written
pub make-split-written : (tiles map out tiles₀ map₀ : List ℕ) {out_after tiles_after map_after : List ℕ} {r s : Written}
    → Wrote (make_says (length tiles) (length map) (length out)) (block_of tiles map) out r out_after
    → r.refusal ≡ 0
    → let block = take r.written out_after in
    Splits (split_says (length block) (length tiles₀) (length map₀)) block tiles₀ map₀ s tiles_after map_after
    → s.refusal ≡ 0
    → (take s.written tiles_after ≡ with_zeros tiles) × (take s.written map_after ≡ with_zeros map)
make-split-written tiles map out tiles₀ map₀ wrote made halves split =
    let number : make_says (length tiles) (length map) (length out) ≡ 0 = sym (ap (λ (x : Written). x.refusal) wrote.answer) ∙ made in
    let fits = made-fits (length tiles) (length map) (length out) number in
    let block = (done-written wrote made).0 in (
      (done-written halves.of_tiles split).0 ∙ ap tile_half block ∙ make-then-tiles tiles map fits.tiles-fit,
      (done-written halves.of_map split).0 ∙ ap map_half block ∙ make-then-map tiles map fits.map-fits,
    )
