-- What was read can be written: each pixel of a read set is below 2^depth, so that no number is left but 11. And what it is written as.
-- Assumes nothing.
use mathlib.Core.Path.{◌≡◌, refl, sym, ap, ap₂, ◌∙◌, subst}
use mathlib.Core.Bool.{Bool, true, false}
use mathlib.Core.List.{List}
use Prim.Native.Nat.{ℕ, ◌+◌, ◌*◌, ◌/◌, ◌%◌, ◌^◌, ◌<◌, ◌≤◌}
use native.Mathlib.Nat.{mod-lt, mul-pos, mul_comm, div-add-mod', div-lt_iff_lt-mul}
use native.Mathlib.Omega.{arith}
use lib.Dec.{T, eqb}
use lib.ListN.{length, get_or, take, drop, length-append, length-drop, get_or-append}
use borrow.Author.Tests.{eqb-true, eqb-false}
use Rattle.words.specs.Answers.{overwrite}
use Rattle.words.specs.Bytes.{are_bytes}
use Rattle.words.specs.Loops.{each}
use Rattle.words.proofs.Answers.{when-done}
use Rattle.words.proofs.Items.{item-get_or, number_at}
use Rattle.mode.specs.Table.{pce-sprite}
use Rattle.tile.specs.Tile.{is_native}
use Rattle.tile.proofs.Checks.{all_small}
use Rattle.tileset.specs.Sets.{area, held_says, no_set}
use Rattle.tileset.specs.Numbers.{row_cells, first_cell}
use Rattle.tileset.specs.Writing.{set_bytes, write_size, write_says}
use Rattle.tileset.specs.Reading.{tile_size, unit_bytes, read_count, read_says, read_set, pixel_in, row_in, tile_in, read_pixels, bytes_again, row_bytes, Reads}
use Rattle.tileset.specs.declared.Set.{Set}
use Rattle.tileset.specs.declared.SetAnswer.{SetAnswer}
use Rattle.tileset.proofs.Sizes.{IsSet}
use Rattle.tileset.proofs.WritingLaws.{native-cell, native-sprite, write-0}
use Rattle.tileset.proofs.ReadingLaws.{read_whole, read-set-of, read-space, read_held, read_length, unpacked-small, cell-in-small, cell-pixel, row-in-length, tile-length}
use Rattle.tileset.proofs.Straight.{tile-straight}
use Rattle.tileset.proofs.Again.{written-again, again-same, native-rows, only-rows}

-- numbers below b in each item, each of k numbers
each-small : (k n b : ℕ) (f : ℕ → List ℕ) → 0 < k → ((i : ℕ) → length (f i) ≡ k) → ((i j : ℕ) → j < k → get_or (f i) j 0 < b)
    → (i : ℕ) → i < n * k → get_or (each n f) i 0 < b
each-small k n b f some size small i lt =
    let inside : i % k < k = mod-lt i some in
    subst (λ (x : ℕ). get_or (each n f) x 0 < b) (div-add-mod' i k)
    (rw (item-get_or k f size n (i / k) ((div-lt_iff_lt-mul some).1 lt) (i % k) inside) (small (i / k) (i % k) inside))

-- so it is of the pixels of every tile, row by row
module _ {m d w h : ℕ} (s : IsSet m d w h) (bytes : List ℕ) where
  module _ (other : m ≡ pce-sprite → ⊥) where
    pixel-small : (t y x : ℕ) → pixel_in m d w h bytes t y x < 2 ^ d
    pixel-small t y x =
        rw (← cell-pixel m d w h bytes t y x other)
        (cell-in-small (native-cell s other) bytes (first_cell m w h t + y / 8 * row_cells m + x / 8) (y % 8 * 8 + x % 8) (omega arith))

    row_small : (t y x : ℕ) → x < w → get_or (row_in m d w h bytes t y) x 0 < 2 ^ d
    row_small t y x lt = rw (number_at w (pixel_in m d w h bytes t y) x lt) (pixel-small t y x)

  small-case : (b : Bool) → eqb m pce-sprite ≡ b → (t i : ℕ) → i < w * h → get_or (tile_in m d w h bytes t) i 0 < 2 ^ d
  small-case true e t i lt =
      let sprite = native-sprite s (eqb-true m pce-sprite e) in
      rw (tile-straight sprite bytes t) (unpacked-small sprite (take (tile_size d w h) (drop (t * tile_size d w h) bytes)) i lt)
  small-case false e t i lt =
      each-small w h (2 ^ d) (row_in m d w h bytes t) s.some (row-in-length m d w h bytes t) (row_small (eqb-false m pce-sprite e) t) i (omega (arith, mul_comm w h))

  tile-small : (t i : ℕ) → i < w * h → get_or (tile_in m d w h bytes t) i 0 < 2 ^ d
  tile-small = small-case (eqb m pce-sprite) refl

  pixels-small : (i : ℕ) → i < read_count m d w h (length bytes) * (w * h) → get_or (read_pixels m d w h bytes) i 0 < 2 ^ d
  unfolding read_pixels
  pixels-small = each-small (w * h) (read_count m d w h (length bytes)) (2 ^ d) (tile_in m d w h bytes) (mul-pos s.some s.tall) (tile-length m d w h bytes) tile-small

-- r and after are what a caller sees of a call that was answered 0
module _ (m d w h : ℕ) (flips : Bool) (bytes store : List ℕ) (r : SetAnswer) (after : List ℕ) (told : Reads m d w h flips bytes store r after) (done : r.refusal ≡ 0) where
  abbrev due : ℕ
  due = read_says m d w h (length bytes) (length store)

  abbrev count : ℕ
  count = read_count m d w h (length bytes)

  abbrev pixels : List ℕ
  pixels = read_pixels m d w h bytes

  says : due ≡ 0
  says = sym (ap (λ (a : SetAnswer). a.refusal) told.answer) ∙ done

  set_is : r.set ≡ read_set m d w h flips count
  set_is = ap (λ (a : SetAnswer). a.set) told.answer ∙ when-done due (read_set m d w h flips count) no_set says

  left_is : after ≡ overwrite store pixels
  left_is = told.lent ∙ when-done due (overwrite store pixels) store says

  sound : IsSet m d w h
  sound = read-set-of m d w h (length bytes) (length store) says

  small : (i : ℕ) → i < count * (w * h) → get_or after i 0 < 2 ^ d
  small i lt =
      let inside : i < length pixels = omega (arith, read_length m d w h bytes) in
      rw (left_is, get_or-append pixels (drop (length pixels) store) 0 i inside) (pixels-small sound bytes i lt)

  long : length after ≡ length store
  long =
      ap length left_is ∙ length-append pixels (drop (length pixels) store)
      ∙ omega (arith, length-drop (length pixels) store, read_length m d w h bytes, read-space m d w h (length bytes) (length store) says)

  held : held_says (read_set m d w h flips count) (length after) ≡ 0
  held = rw long (read_held m d w h (length bytes) (length store) says flips)

  -- each counted pixel is below 2^depth
  pub read_small : (i : ℕ) → i < r.set.stored * area r.set → get_or after i 0 < 2 ^ r.set.depth
  read_small i = subst (λ (z : Set). i < z.stored * area z → get_or after i 0 < 2 ^ z.depth) (sym set_is) (small i)

  -- and so the set can be written
  pub read-writes : (space : ℕ) → write_size r.set ≤ space → write_says r.set after space ≡ 0
  read-writes space =
      subst (λ (z : Set). write_size z ≤ space → write_says z after space ≡ 0) (sym set_is)
      (λ fits. sym (write-0 (read_set m d w h flips count) after space held (all_small (count * (w * h)) d after small) fits))

  -- ---- what it is written as

  whole : length bytes % unit_bytes m d w h ≡ 0
  whole = read_whole m d w h (length bytes) (length store) says

  held_after : held_says (read_set m d w h flips count) (length (overwrite store pixels)) ≡ 0
  held_after = rw (← left_is) held

  written_is : set_bytes r.set after ≡ set_bytes (read_set m d w h flips count) (overwrite store pixels)
  written_is = ap₂ set_bytes set_is left_is

  pub read-then-write : T (are_bytes bytes) → set_bytes r.set after ≡ bytes_again m d w h bytes
  read-then-write are = written_is ∙ written-again sound flips bytes (drop (length pixels) store) whole held_after are

  -- the same bytes where they are whole rows of tiles, and nowhere else
  pub rows-again : T (are_bytes bytes) → length bytes % row_bytes m d w h ≡ 0 → set_bytes r.set after ≡ bytes
  rows-again are rows = read-then-write are ∙ again-same sound flips bytes (drop (length pixels) store) whole held_after rows

  pub again-rows : set_bytes r.set after ≡ bytes → length bytes % row_bytes m d w h ≡ 0
  again-rows e = only-rows sound flips bytes (drop (length pixels) store) whole held_after (sym written_is ∙ e)

  -- so that those of a native size, sprites and 8x8, are always the same bytes
  pub native-again : T (are_bytes bytes) → is_native m w h ≡ true → set_bytes r.set after ≡ bytes
  native-again are one = rows-again are (native-rows sound flips bytes (drop (length pixels) store) whole held_after one)
