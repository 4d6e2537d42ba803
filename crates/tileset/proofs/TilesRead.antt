-- The tiles of a set that was read, in the store that reading left, are the tiles read.
-- Assumes nothing.
use mathlib.Core.Path.{◌≡◌, refl, ap, ◌∙◌}
use mathlib.Core.List.{List, [], ◌∷◌, ◌++◌}
use Prim.Native.Nat.{ℕ, zero, suc, ◌+◌, ◌*◌, ◌<◌, ◌≤◌}
use native.Mathlib.Nat.{zero-add}
use native.Mathlib.Omega.{arith}
use lib.ListN.{length, take, drop, length-drop}
use lib.Seq.{take-append-le, drop-append-le}
use Rattle.words.specs.Loops.{each}
use Rattle.words.specs.Answers.{overwrite}
use Rattle.words.proofs.Loops.{length-each}
use Rattle.words.proofs.Items.{item-at, item-inside}
use Rattle.tileset.specs.Finding.{tiles_from, tiles_in}
use Rattle.tileset.specs.Reading.{read_count, tile_in, read_pixels}
use Rattle.tileset.specs.History.{tiles_read}
use Rattle.tileset.proofs.Stores.{tiles_more}
use Rattle.tileset.proofs.ReadingLaws.{tile-length}

-- item i of some, where more follow
pub item-front : (k : ℕ) (f : ℕ → List ℕ) → ((i : ℕ) → length (f i) ≡ k) → (n : ℕ) (rest : List ℕ) (i : ℕ) → i < n → take k (drop (i * k) (each n f ++ rest)) ≡ f i
item-front k f size n rest i lt =
    let space = item-inside k n i lt in
    let len = length-each n k f size in
    let inside : i * k ≤ length (each n f) = omega arith in
    let enough : k ≤ length (drop (i * k) (each n f)) = omega (arith, length-drop (i * k) (each n f)) in
    rw (drop-append-le (i * k) (each n f) rest inside, take-append-le k (drop (i * k) (each n f)) rest enough) (item-at k f size n i lt)

module _ (m d w h : ℕ) (bytes : List ℕ) where
  read-from : (s : List ℕ) (n : ℕ) → ((i : ℕ) → i < n → take (w * h) (drop (i * (w * h)) s) ≡ tile_in m d w h bytes i)
      → tiles_from (w * h) s 0 n ≡ tiles_read m d w h bytes n
  read-from s zero is = refl
  read-from s (suc n) is =
      tiles_more (w * h) s 0 n
      ∙ ap (λ (l : List (List ℕ)). l ++ take (w * h) (drop ((0 + n) * (w * h)) s) ∷ []) (read-from s n (λ i lt. is i (omega arith)))
      ∙ ap (λ (l : List ℕ). tiles_read m d w h bytes n ++ l ∷ []) (ap (λ (k : ℕ). take (w * h) (drop (k * (w * h)) s)) (zero-add n) ∙ is n (omega arith))

  pub tiles-read : (store : List ℕ) → let count = read_count m d w h (length bytes) in
      tiles_in (w * h) (overwrite store (read_pixels m d w h bytes)) count ≡ tiles_read m d w h bytes count
  unfolding tiles_in read_pixels
  tiles-read store =
      let count = read_count m d w h (length bytes) in
      let new = each count (tile_in m d w h bytes) in
      read-from (new ++ drop (length new) store) count (item-front (w * h) (tile_in m d w h bytes) (tile-length m d w h bytes) count (drop (length new) store))
