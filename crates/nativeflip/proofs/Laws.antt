-- The laws of native flips: a flip is a flip of the pixels, each undoes itself, h then v is hv, their order does not matter, and neither leaves the
-- bytes as they are: of the bytes, and of what a caller sees of the calls.
-- Assumes nothing.
use mathlib.Core.Path.{◌≡◌, sym, ap, ◌∙◌, subst}
use mathlib.Core.Bool.{true, false, xor}
use mathlib.Core.List.{List, [], ◌∷◌}
use Prim.Native.Nat.{ℕ, ◌*◌, ◌^◌, ◌<◌, ◌≤◌}
use native.Mathlib.Omega.{arith}
use lib.Dec.{T}
use lib.ListN.{length, get_or, take}
use Rattle.words.specs.Answers.{Wrote}
use Rattle.words.specs.Bytes.{are_bytes}
use Rattle.words.specs.Loops.{each}
use Rattle.words.specs.declared.Written.{Written}
use Rattle.words.proofs.Answers.{done-written}
use Rattle.tile.specs.Inner.{byte_count, packed_in, unpacked_in}
use Rattle.tile.specs.Tile.{packing_of, tile_says, pack_says, unpack_says, packed, unpacked}
use Rattle.tile.proofs.Checks.{all_small, pack-0, unpack-0}
use Rattle.tile.specs.declared.Packing.{Packing}
use Rattle.tile.specs.declared.Packing.TheVariants.{Planar}
use Rattle.tile.proofs.Filling.{spread-is}
use Rattle.tile.proofs.Laws.{packed-length, packed-bytes, unpacked-length, unpacked-small, pixels-back, bytes_back}
use Rattle.flip.specs.Flips.{flip, flip_at, flipped, after}
use Rattle.flip.specs.declared.Flip.{Flip}
use Rattle.flip.proofs.Group.{flip_at-lt, length-flipped, flipped-at, flipped-flipped, flipped-none, flipped-back, flips-commute}
use Rattle.nativeflip.specs.Flipping.{flip_says, flipped_bytes, reversed}
use Rattle.nativeflip.specs.Inner.{is_cell}
use Rattle.nativeflip.proofs.Checks.{flippable}
use Rattle.nativeflip.proofs.Sides.{side_of, turns_as}

module _ (m d : ℕ) (bytes : List ℕ) (space : ℕ) (z : flip_says m d (length bytes) space ≡ 0) where
  allowed : tile_says m d 8 8 ≡ 0
  allowed = (flippable m d (length bytes) space z).allowed

  whole : length bytes ≡ d * 8
  whole = (flippable m d (length bytes) space z).whole

  abbrev pixels : List ℕ
  pixels = unpacked m d 8 8 bytes

  -- flipped pixels are pixels of the depth
  small : (f : Flip) (i : ℕ) → i < 64 → get_or (flipped f 8 8 pixels) i 0 < 2 ^ d
  small f i l = rw (flipped-at f 8 8 pixels i l) (unpacked-small m d 8 8 allowed bytes (flip_at f 8 8 i) (flip_at-lt 8 8 i l (omega arith) f))

  -- a flipped tile is as long as the tile, and bytes
  pub flip-keeps-length : (f : Flip) → length (flipped_bytes m d f bytes) ≡ length bytes
  unfolding flipped_bytes
  flip-keeps-length f = packed-length m d 8 8 allowed (flipped f 8 8 pixels) ∙ omega (arith, whole)

  pub flip-gives-bytes : (f : Flip) → T (are_bytes (flipped_bytes m d f bytes))
  unfolding flipped_bytes
  flip-gives-bytes f = packed-bytes m d 8 8 allowed (flipped f 8 8 pixels)

  -- its pixels are the tile's, flipped
  pub flip-flips-pixels : (f : Flip) → unpacked m d 8 8 (flipped_bytes m d f bytes) ≡ flipped f 8 8 pixels
  unfolding flipped_bytes
  flip-flips-pixels f = pixels-back m d 8 8 allowed (flipped f 8 8 pixels) (length-flipped f 8 8 pixels) (small f)

  -- neither flip: the same bytes
  pub flip-neither : T (are_bytes bytes) → flipped_bytes m d (flip false false) bytes ≡ bytes
  unfolding flipped_bytes
  flip-neither b =
      ap (packed m d 8 8) (flipped-none 8 8 pixels (omega arith) (unpacked-length m d 8 8 allowed bytes))
      ∙ bytes_back m d 8 8 allowed bytes (omega (arith, whole)) b

  -- one flip after another is the one that is both
  pub flip-after : (f g : Flip) → flipped_bytes m d g (flipped_bytes m d f bytes) ≡ flipped_bytes m d (after f g) bytes
  unfolding flipped_bytes
  flip-after f g = ap (λ (l : List ℕ). packed m d 8 8 (flipped g 8 8 l)) (flip-flips-pixels f) ∙ ap (packed m d 8 8) (flipped-flipped 8 8 pixels (omega arith) g f)

  -- so each undoes itself, h then v is hv, and their order does not matter
  pub flip-undone : T (are_bytes bytes) → (f : Flip) → flipped_bytes m d f (flipped_bytes m d f bytes) ≡ bytes
  unfolding flipped_bytes
  flip-undone b f =
      ap (λ (l : List ℕ). packed m d 8 8 (flipped f 8 8 l)) (flip-flips-pixels f)
      ∙ ap (packed m d 8 8) (flipped-back 8 8 pixels (omega arith) f (unpacked-length m d 8 8 allowed bytes))
      ∙ bytes_back m d 8 8 allowed bytes (omega (arith, whole)) b

  pub flip-h-then-v : flipped_bytes m d (flip false true) (flipped_bytes m d (flip true false) bytes) ≡ flipped_bytes m d (flip true true) bytes
  unfolding xor
  flip-h-then-v = flip-after (flip true false) (flip false true)

  pub flip-order : (f g : Flip) → flipped_bytes m d g (flipped_bytes m d f bytes) ≡ flipped_bytes m d f (flipped_bytes m d g bytes)
  unfolding flipped_bytes
  flip-order f g =
      ap (λ (l : List ℕ). packed m d 8 8 (flipped g 8 8 l)) (flip-flips-pixels f)
      ∙ ap (packed m d 8 8) (flips-commute 8 8 pixels (omega arith) g f)
      ∙ sym (ap (λ (l : List ℕ). packed m d 8 8 (flipped f 8 8 l)) (flip-flips-pixels g))

  -- a flipped tile is taken wherever the tile is
  pub flip-again : (f : Flip) (space₂ : ℕ) → flip_says m d (length (flipped_bytes m d f bytes)) space₂ ≡ flip_says m d (length bytes) space₂
  flip-again f space₂ = ap (λ (n : ℕ). flip_says m d n space₂) (flip-keeps-length f)

  -- and the three calls that one flip stands for are not refused
  pub flip-unpacks : (n : ℕ) → 64 ≤ n → unpack_says m d 8 8 (length bytes) n ≡ 0
  flip-unpacks n fit = sym (unpack-0 m d 8 8 (length bytes) n allowed (omega (arith, whole)) fit)

  pub flip-packs : (f : Flip) → pack_says m d 8 8 (flipped f 8 8 pixels) space ≡ 0
  flip-packs f =
      let there = flipped f 8 8 pixels in
      let len : length there ≡ 64 = length-flipped f 8 8 pixels in
      sym (pack-0 m d 8 8 there space allowed len (all_small (length there) d there (λ i l. small f i (omega arith))) (omega (arith, (flippable m d (length bytes) space z).fits)))

-- ---- "Planar rows flip by a fixed table": where a mode has planes, h gives each byte as the table has it

pub flip-by-table : (m d g deep : ℕ) (bytes : List ℕ) (space : ℕ) → flip_says m d (length bytes) space ≡ 0 → packing_of m d 8 8 ≡ Planar g deep
    → flipped_bytes m d (flip true false) bytes ≡ each (length bytes) (λ k. reversed (get_or bytes k 0) ∷ [])
unfolding flipped_bytes reversed
flip-by-table m d g deep bytes space z planes =
    let known = flippable m d (length bytes) space z in
    let h = flip true false in
    let here : byte_count (Planar g deep) ≡ length bytes = ap byte_count (sym planes) ∙ known.bytes ∙ sym known.whole in
    ap (λ (p : Packing). packed_in p (flipped h 8 8 (unpacked_in p bytes))) planes
    ∙ turns_as (Planar g deep) (subst (λ (p : Packing). T (is_cell p)) planes known.cell) h bytes
    ∙ sym (spread-is (side_of (Planar g deep) h (byte_count (Planar g deep))) bytes (length bytes) (sym here))

-- ---- of the calls: a caller who flips a tile, and flips what was written

pub flip-undone-written : (m d : ℕ) (f : Flip) (bytes out out₂ : List ℕ) {after after₂ : List ℕ} {r s : Written} → T (are_bytes bytes)
    → Wrote (flip_says m d (length bytes) (length out)) (flipped_bytes m d f bytes) out r after
    → r.refusal ≡ 0
    → let there = take r.written after in
    Wrote (flip_says m d (length there) (length out₂)) (flipped_bytes m d f there) out₂ s after₂
    → s.refusal ≡ 0
    → take s.written after₂ ≡ bytes
flip-undone-written m d f bytes out out₂ b wrote done again done-too =
    let z : flip_says m d (length bytes) (length out) ≡ 0 = sym (ap (λ (x : Written). x.refusal) wrote.answer) ∙ done in
    (done-written again done-too).0
    ∙ ap (flipped_bytes m d f) (done-written wrote done).0
    ∙ flip-undone m d bytes (length out) z b f

-- and one who unpacks it, flips its pixels and packs them gets what the one call writes
pub flip-written : (m d : ℕ) (f : Flip) (bytes out pixels out₂ : List ℕ) {after there after₂ : List ℕ} {r s t : Written}
    → Wrote (flip_says m d (length bytes) (length out)) (flipped_bytes m d f bytes) out r after
    → r.refusal ≡ 0
    → Wrote (unpack_says m d 8 8 (length bytes) (length pixels)) (unpacked m d 8 8 bytes) pixels s there
    → s.refusal ≡ 0
    → let turned = flipped f 8 8 (take s.written there) in
    Wrote (pack_says m d 8 8 turned (length out₂)) (packed m d 8 8 turned) out₂ t after₂
    → t.refusal ≡ 0
    → take r.written after ≡ take t.written after₂
unfolding flipped_bytes
flip-written m d f bytes out pixels out₂ one done first unpacked-too last packed-too =
    (done-written one done).0
    ∙ sym ((done-written last packed-too).0 ∙ ap (λ (l : List ℕ). packed m d 8 8 (flipped f 8 8 l)) (done-written first unpacked-too).0)
