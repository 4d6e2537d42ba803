-- Packing and unpacking a native tile: how each mode packs, what is refused, and the bytes or pixels.
-- Assumes nothing.
use Rattle.std.specs.Prelude.{Bool, not, cond, ◌&&◌, List, [], ◌∷◌, ◌++◌, ℕ, ◌*◌, ◌/◌, ◌^◌, ltb, leb, eqb, length, get_or}
use Rattle.words.specs.Answers.{◌when◌, first_applying}
use Rattle.words.specs.Loops.{some}
use Rattle.mode.specs.Table.{one_of, has_depth, pce-sprite}
use Rattle.tile.specs.Layout.{Layout, spread}
use Rattle.tile.specs.Packings.{layout_in}
use Rattle.tile.specs.declared.Packing.{Packing}
use Rattle.tile.specs.declared.Packing.TheVariants.{Planar, Ngp, LowFirst, HighFirst, Plain, Sprite}

-- Planes in pairs, and "depth 1: one byte a row"; four planes a row; and the two modes that pack each depth in its own way.
abbrev pub pairs : ℕ → Packing
pairs d = Planar (cond (eqb d 1) 1 2) d

abbrev pub fours : Packing
fours = Planar 4 4

abbrev pub gba_packing : ℕ → Packing
gba_packing d = cond (eqb d 4) LowFirst Plain

abbrev pub wsc_packing : ℕ → Packing
wsc_packing d = cond (eqb d 2) (pairs d) fours

-- How each mode packs at depth d, a sprite with its width and height: "snes, gb, gbc, pce, and depth 2 of ws and wsc" in pairs; "wsc depth 4, sms,
-- gg" four planes a row; "ngp, ngpc"; "gba depth 4, md" and "wsc_packed" nibbles; "snes_mode7, gba depth 8, gba_affine: pixels as they are".
-- In order: snes, snes_mode7, gb, gbc, gba, gba_affine, md, sms, gg, pce, pce_sprite, ngp, ngpc, ws, wsc, wsc_packed.
abbrev pub packings : ℕ → ℕ → ℕ → List Packing
packings d w h =
    pairs d  -- snes
    ∷ Plain  -- snes_mode7
    ∷ pairs d  -- gb
    ∷ pairs d  -- gbc
    ∷ gba_packing d  -- gba
    ∷ Plain  -- gba_affine
    ∷ LowFirst  -- md
    ∷ fours  -- sms
    ∷ fours  -- gg
    ∷ pairs d  -- pce
    ∷ Sprite w h  -- pce_sprite
    ∷ Ngp  -- ngp
    ∷ Ngp  -- ngpc
    ∷ pairs d  -- ws
    ∷ wsc_packing d  -- wsc
    ∷ HighFirst  -- wsc_packed
    ∷ []

unfoldable pub packing_of : ℕ → ℕ → ℕ → ℕ → Packing
packing_of m d w h = get_or (packings d w h) m Plain

abbrev pub layout_of : ℕ → ℕ → ℕ → ℕ → Layout
layout_of m d w h = layout_in (packing_of m d w h)

abbrev pub packed : ℕ → ℕ → ℕ → ℕ → List ℕ → List ℕ
packed m d w h pixels = spread (layout_of m d w h).bytes pixels

abbrev pub unpacked : ℕ → ℕ → ℕ → ℕ → List ℕ → List ℕ
unpacked m d w h bytes = spread (layout_of m d w h).pixels bytes

-- "A native tile (no other is packed) is 8x8 .. in every mode but pce_sprite." "Pce_sprite: widths 16, 32, heights 16, 32, 64."
abbrev pub widths : ℕ → List ℕ
widths m = cond (eqb m pce-sprite) (16 ∷ 32 ∷ []) (8 ∷ [])

abbrev pub heights : ℕ → List ℕ
heights m = cond (eqb m pce-sprite) (16 ∷ 32 ∷ 64 ∷ []) (8 ∷ [])

abbrev pub is_native : ℕ → ℕ → ℕ → Bool
is_native m w h = one_of w (widths m) && one_of h (heights m)

-- "A pixel of 2^depth or more."
abbrev pub too_large : ℕ → List ℕ → ℕ → Bool
too_large d pixels i = leb (2 ^ d) (get_or pixels i 0)

-- The checks of packing and of unpacking; both begin with those of the tile. "Input length not the one required": width x height pixels, of
-- depth bits each in the bytes.
abbrev pub tile_checks : ℕ → ℕ → ℕ → ℕ → List ℕ
tile_checks m d w h = 1 when ltb 15 m ∷ 3 when not (has_depth m d) ∷ 4 when not (is_native m w h) ∷ []

abbrev pub pack_checks : ℕ → ℕ → ℕ → ℕ → List ℕ → ℕ → List ℕ
pack_checks m d w h pixels space =
    tile_checks m d w h
    ++ 7 when not (eqb (length pixels) (w * h))
    ∷ 8 when some (length pixels) (too_large d pixels)
    ∷ 11 when ltb space (w * h * d / 8)
    ∷ []

abbrev pub unpack_checks : ℕ → ℕ → ℕ → ℕ → ℕ → ℕ → List ℕ
unpack_checks m d w h len space = tile_checks m d w h ++ 7 when not (eqb len (w * h * d / 8)) ∷ 11 when ltb space (w * h) ∷ []

unfoldable pub tile_says : ℕ → ℕ → ℕ → ℕ → ℕ
tile_says m d w h = first_applying (tile_checks m d w h)

unfoldable pub pack_says : ℕ → ℕ → ℕ → ℕ → List ℕ → ℕ → ℕ
pack_says m d w h pixels space = first_applying (pack_checks m d w h pixels space)

unfoldable pub unpack_says : ℕ → ℕ → ℕ → ℕ → ℕ → ℕ → ℕ
unpack_says m d w h len space = first_applying (unpack_checks m d w h len space)
