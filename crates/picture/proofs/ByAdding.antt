-- Adding a picture's tiles to a set with room for them stores what the picture stores.
-- Assumes nothing.
use mathlib.Core.Path.{◌≡◌, refl, sym, ap, ◌∙◌, subst}
use mathlib.Core.Bool.{Bool}
use mathlib.Core.List.{List, [], ◌∷◌, map, map-append}
use Prim.Native.Nat.{ℕ, zero, suc, ◌+◌, ◌*◌, ◌/◌, ◌%◌, ◌<◌, ◌≤◌, ◌^◌}
use native.Mathlib.Nat.{mod-mod, mod-lt}
use native.Mathlib.Omega.{arith}
use lib.ListN.{length, get_or, take, drop, length-map, get_or-map}
use lib.Seq.{get_or-take, get_or-drop}
use borrow.Author.Tests.{ne_eqb}
use Rattle.words.specs.Loops.{each}
use Rattle.words.proofs.Items.{each-eq}
use Rattle.words.proofs.Filling.{each_of}
use Rattle.mode.specs.Table.{pce-sprite}
use Rattle.tile.specs.Tile.{packed}
use Rattle.tileset.specs.Sets.{area, room_in, new_set, with_counts}
use Rattle.tileset.specs.Numbers.{row_cells, tile_of}
use Rattle.tileset.specs.Writing.{cell_count, corner_of, block, cell_bytes, set_bytes}
use Rattle.tileset.specs.Finding.{cut_to, tiles_in}
use Rattle.tileset.specs.Keeping.{keep_all, kept}
use Rattle.tileset.specs.History.{set_at_end, store_at_end, accepted, set_tiles}
use Rattle.tileset.specs.declared.Set.{Set}
use Rattle.tileset.proofs.Stores.{length_cut, length-tiles as length-stored}
use Rattle.tileset.proofs.Keeping.{Every}
use Rattle.tileset.proofs.WritingLaws.{cell-there}
use Rattle.tileset.proofs.Adds.{kept_after, Roomy, all-added}
use Rattle.tileset.proofs.History.{adds-stand, adds-sum}
use Rattle.tileset.proofs.Stores.{tiles-at, tiles-long}
use Rattle.picture.specs.Cells.{pixel_at, cut_tile, cut_tiles}
use Rattle.picture.specs.Converting.{places, picture_tiles, stored_of, need_of, tile_bytes_of, size_says}
use Rattle.picture.specs.declared.Settings.{Settings}
use Rattle.picture.proofs.Checks.{set-8, size_of, few-tiles}
use Rattle.tileset.proofs.NumberLaws.{tile-8 as cell-8}
use Rattle.picture.proofs.Cells.{some-8}
use Rattle.picture.proofs.Kept.{length-cut_tile, kept-sizes}
use Rattle.picture.proofs.Converted.{length-tiles, tile-is, stored-need}

-- ---- the tiles of a picture

-- what is cut stays as it is
cut_again : (d : ℕ) (l : List ℕ) → cut_to d (cut_to d l) ≡ cut_to d l
unfolding cut_to
cut_again d [] = refl
cut_again d (x ∷ xs) = rw (mod-mod x (2 ^ d), cut_again d xs)

pub tiles-cut : (d w h columns : ℕ) (pixels : List ℕ) (n : ℕ) → map (cut_to d) (cut_tiles d w h columns pixels n) ≡ cut_tiles d w h columns pixels n
unfolding cut_tiles cut_tile
tiles-cut d w h columns pixels zero = refl
tiles-cut d w h columns pixels (suc n) =
    map-append (cut_to d) (cut_tiles d w h columns pixels n) (cut_tile d w h columns pixels n ∷ [])
    ∙ rw (tiles-cut d w h columns pixels n, cut_again d (each (w * h) (λ p. get_or pixels (pixel_at w h columns n p) 0 ∷ [])))

-- ---- what writing a set of 8x8 gives: its cells are its tiles

cell-corner : (m c : ℕ) → corner_of m 8 8 c ≡ c * 64
unfolding corner_of
cell-corner m c =
    let row : c / row_cells m % 1 < 1 = mod-lt (c / row_cells m) (omega arith) in
    let column : c % row_cells m % 1 < 1 = mod-lt (c % row_cells m) (omega arith) in
    omega (arith, cell-8 m c)

-- eight rows of eight are 64 pixels in their order
block-8 : (store : List ℕ) (at : ℕ) → length (take 64 (drop at store)) ≡ 64 → block store at 8 ≡ take 64 (drop at store)
block-8 store at long =
    let t = take 64 (drop at store) in
    each-eq 64 (λ i. get_or store (at + i / 8 * 8 + i % 8) 0 ∷ []) (λ i. get_or t i 0 ∷ [])
    (λ i lt.
    let e : at + i / 8 * 8 + i % 8 ≡ at + i = omega arith in
    ap (λ (k : ℕ). get_or store k 0 ∷ []) e ∙ ap (λ (v : ℕ). v ∷ []) (sym (get_or-take 64 (drop at store) i 0 lt ∙ get_or-drop at store i 0)))
    ∙ ap (λ (n : ℕ). each n (λ i. get_or t i 0 ∷ [])) (sym long)
    ∙ each_of t

module _ (m d : ℕ) (other : m ≡ pce-sprite → ⊥) (flips discarding : Bool) (limit stored discarded : ℕ) (store : List ℕ) where
  abbrev counted : Set
  counted = with_counts (new_set m d 8 8 flips discarding limit) stored discarded

  bytes_8 : (ts : List (List ℕ)) → tiles_in 64 store stored ≡ ts → Every (λ t. length t ≡ 64) ts → set_bytes counted store ≡ each (length ts) (λ k. packed m d 8 8 (get_or ts k []))
  unfolding set_bytes cell_count
  bytes_8 ts e sizes =
      let count : length ts ≡ stored = ap (λ (x : List (List ℕ)). length x) (sym e) ∙ tiles-long 64 store stored in
      rw (ne_eqb m pce-sprite other)
      (each-eq stored (cell_bytes counted store) (λ k. packed m d 8 8 (get_or ts k []))
      (λ k lt.
      let is : take 64 (drop (k * 64) store) ≡ get_or ts k [] = sym (tiles-at 64 store stored k lt) ∙ ap (λ (x : List (List ℕ)). get_or x k []) e in
      let there : tile_of m 8 8 k < stored = omega (arith, cell-8 m k) in
      ap (packed m d 8 8)
      (sym (cell-there counted store k there)
      ∙ ap (λ (n : ℕ). block store n 8) (cell-corner m k)
      ∙ block-8 store (k * 64) (ap (λ (l : List ℕ). length l) is ∙ sizes k (omega (arith, count)))
      ∙ is))
      ∙ ap (λ (n : ℕ). each n (λ k. packed m d 8 8 (get_or ts k []))) (sym count))

-- ps are any tiles that are the picture's once they are cut
module _ (z : Settings) (pixels : List ℕ) (size : size_says z.mode z.depth z.columns z.rows ≡ 0) (limit : ℕ) (store : List ℕ)
    (ps : List (List ℕ)) (cut : map (cut_to z.depth) ps ≡ picture_tiles 8 8 z pixels) where
  abbrev empty : Set
  empty = new_set z.mode z.depth 8 8 z.flip z.discard limit

  count-ps : length ps ≡ places z
  count-ps = sym (length-map ps (cut_to z.depth)) ∙ ap (λ (x : List (List ℕ)). length x) cut ∙ length-tiles 8 8 some-8 z pixels

  cut-none : cut_to z.depth [] ≡ []
  unfolding cut_to
  cut-none = refl

  size-ps : Every (λ p. length p ≡ 64) ps
  size-ps i lt =
      let inside : i < places z = omega (arith, count-ps) in
      sym (length_cut z.depth (get_or ps i []))
      ∙ ap (λ (x : List ℕ). length x) (sym (get_or-map (cut_to z.depth) ps i []) ∙ ap (get_or (map (cut_to z.depth) ps) i) cut-none)
      ∙ ap (λ (x : List (List ℕ)). length (get_or x i [])) cut
      ∙ ap (λ (x : List ℕ). length x) (tile-is 8 8 some-8 z pixels i inside)
      ∙ length-cut_tile z.depth 8 8 z.columns pixels i

  kept-is : kept_after empty store ps ≡ stored_of 8 8 z pixels
  unfolding tiles_in stored_of kept
  kept-is = ap (keep_all z.discard z.flip 8 8 []) cut

  stored-sizes : Every (λ t. length t ≡ 64) (stored_of 8 8 z pixels)
  unfolding stored_of picture_tiles
  stored-sizes = kept-sizes z.discard z.flip z.depth 8 8 z.columns pixels (places z)

  module _ (room : need_of 8 8 z pixels ≤ room_in empty (length store)) where
    roomy : Roomy empty store ps
    roomy =
        let known = size_of z.mode z.depth z.columns z.rows size in
        record {
          says = set-8 z.mode z.depth known.mode known.map known.depth;
          sizes = size-ps;
          room = subst (λ (n : ℕ). n ≤ room_in empty (length store)) (sym (ap (λ (x : List (List ℕ)). length x) kept-is ∙ stored-need 8 8 some-8 z pixels)) room;
          few = omega (arith, count-ps, few-tiles known);
        }

    pub tiles-accepted : accepted empty store ps ≡ places z
    tiles-accepted = (all-added empty store ps roomy).0 ∙ count-ps

    pub tiles-stored : set_tiles (set_at_end empty store ps) (store_at_end empty store ps) ≡ stored_of 8 8 z pixels
    tiles-stored = (all-added empty store ps roomy).1 ∙ kept-is

    pub tiles-count : (set_at_end empty store ps).stored ≡ length (stored_of 8 8 z pixels)
    unfolding tiles_in
    tiles-count =
        let end = set_at_end empty store ps in
        sym (length-stored (area end) (store_at_end empty store ps) 0 end.stored) ∙ ap (λ (x : List (List ℕ)). length x) tiles-stored

    pub tiles-sum : (set_at_end empty store ps).stored + (set_at_end empty store ps).discarded ≡ places z
    tiles-sum = adds-sum empty store ps ∙ omega (arith, tiles-accepted)

    -- and writing the set gives the picture's tile bytes
    pub tiles-bytes : tile_bytes_of z pixels ≡ set_bytes (set_at_end empty store ps) (store_at_end empty store ps)
    unfolding tile_bytes_of
    tiles-bytes =
        let known = size_of z.mode z.depth z.columns z.rows size in
        let end = set_at_end empty store ps in
        let final = store_at_end empty store ps in
        sym
        (ap (λ (x : Set). set_bytes x final) (adds-stand empty store ps).same
        ∙ bytes_8 z.mode z.depth known.map z.flip z.discard limit end.stored end.discarded final (stored_of 8 8 z pixels)
        (sym (ap (λ (x : Set). set_tiles x final) (adds-stand empty store ps).same) ∙ tiles-stored) stored-sizes)
