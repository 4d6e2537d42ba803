-- A converted picture of snes_mode7 goes into a mode 7 block: so its tile bytes are never refused for their length.
-- Assumes nothing.
use mathlib.Core.Path.{◌≡◌, sym, ap, ◌∙◌}
use mathlib.Core.List.{List}
use Prim.Native.Nat.{ℕ, ◌*◌, ◌^◌, ◌≤◌}
use native.Mathlib.Nat.{mul-le-mul, mul-one}
use native.Mathlib.Omega.{arith}
use lib.Dec.{ltb}
use lib.ListN.{length}
use borrow.Author.Tests.{le-ltb}
use Rattle.words.specs.Answers.{◌when◌}
use Rattle.words.proofs.Answers.{last-given}
use Rattle.mode.specs.Table.{row}
use Rattle.mode7.specs.Block.{pair_count, make_says}
use Rattle.picture.specs.Inner.{IsPicture}
use Rattle.picture.specs.Converting.{places, convert_says, stored_of, tile_bytes_of, map_bytes_of}
use Rattle.picture.specs.declared.Settings.{Settings}
use Rattle.picture.proofs.Checks.{asked-picture, convert-passed, room-named}
use Rattle.picture.proofs.Converted.{stored-need, tile-bytes-length, map-bytes-length}

-- the number of snes_mode7
abbrev pub snes-mode7 : ℕ
snes-mode7 = 1

module _ (z : Settings) (is-mode7 : z.mode ≡ snes-mode7) (pixels : List ℕ) (tile_space map_space : ℕ) (done : convert_says z pixels tile_space map_space ≡ 0) where
  picture : IsPicture z (length pixels)
  picture = asked-picture z (length pixels) map_space (convert-passed z pixels tile_space map_space done).0

  few : length (stored_of 8 8 z pixels) ≤ 256
  unfolding row
  few =
      let named : 2 ^ (row z.mode).tile ≡ 256 = ap (λ (m : ℕ). 2 ^ (row m).tile) is-mode7 in
      omega (arith, stored-need 8 8 (omega arith) z pixels, (convert-passed z pixels tile_space map_space done).1, room-named z tile_space, named)

  -- "256 tiles of 64 pixels" hold them, and a "128 by 128 map" its rows
  pub picture-tiles : length (tile_bytes_of z pixels) ≤ pair_count
  picture-tiles =
      let small : z.depth * 8 ≤ 64 = omega (arith, picture.deep) in
      omega (arith, tile-bytes-length z pixels picture, mul-le-mul {n₁ = length (stored_of 8 8 z pixels)} {m₁ = z.depth * 8} {n₂ = 256} {m₂ = 64} few small)

  pub picture-map : (length (map_bytes_of z pixels) ≡ z.columns * z.rows) × ((z.columns ≤ 128) × (z.rows ≤ 128))
  unfolding row
  picture-map =
      let byte : (row z.mode).entry ≡ 1 = ap (λ (m : ℕ). (row m).entry) is-mode7 in
      (map-bytes-length z pixels ∙ ap (λ (n : ℕ). places z * n) byte ∙ mul-one (places z), (omega (arith, picture.narrow), omega (arith, picture.low)))

  pub picture-made : (map space : ℕ) → map ≤ pair_count → make_says (length (tile_bytes_of z pixels)) map space ≡ 11 when ltb space (pair_count * 2)
  unfolding make_says
  picture-made map space fits =
      rw (le-ltb pair_count (length (tile_bytes_of z pixels)) picture-tiles, le-ltb pair_count map fits) (sym (last-given (11 when ltb space (pair_count * 2))))
