-- Document 01's laws of colours: both round trips, what unpacking says of packed bytes, and the laws of channels.
-- Assumes nothing.
use mathlib.Core.Path.{◌≡◌, refl}
use mathlib.Core.Bool.{not, ◌&&◌}
use mathlib.Core.List.{List, [], ◌∷◌}
use Prim.Native.Nat.{ℕ, ◌+◌, ◌*◌, ◌/◌, ◌<◌, ◌≤◌}
use native.Mathlib.Omega.{arith}
use lib.Dec.{T, ltb, eqb}
use lib.ListN.{length, get_or}
use borrow.Author.Tests.{ltb-false, le-ltb}
use Rattle.words.specs.Answers.{◌when◌, first_applying}
use Rattle.words.specs.Bytes.{are_bytes}
use Rattle.words.proofs.Answers.{all-passed, not-given}
use Rattle.mode.specs.Table.{row, ngp}
use Rattle.color.specs.Color.{Returning, coloring, pack_says, packed, unpack_says, values_in, unpacked}
use Rattle.color.specs.Channel.{reduced, scaled_up, scale_says}
use Rattle.color.specs.declared.Rounding.{Rounding}
use Rattle.color.specs.declared.Rounding.TheVariants.{Nearest}
use Rattle.color.proofs.Packing.{packs, length-packed}
use Rattle.color.proofs.Unpacking.{unpacks}
use Rattle.color.proofs.Channels.{component-back}
use Rattle.color.proofs.Trips.{pack-mode, unpack-mode, back-case, again-either, count-case, accepted}

-- "Colours return where alpha is 255 and, in gray modes, r = g = b."
pub colors-return : (m : ℕ) (cs : List ℕ) (space : ℕ) → pack_says m cs space ≡ 0 → Returning m cs → unpacked m (packed m cs) ≡ cs
colors-return m cs space e r =
    let h = pack-mode m cs space e in
    back-case m h cs space (packs m cs space e) r (coloring m).four refl

-- "Bytes return where unused bits are 0."
pub bytes-return : (m : ℕ) (bs : List ℕ) (space : ℕ) → unpack_says m (length bs) space ≡ 0 → T (are_bytes bs)
    → ((i : ℕ) → i < length bs / (coloring m).size → get_or (values_in m bs i) 5 0 ≡ 0) → packed m (unpacked m bs) ≡ bs
bytes-return m bs space e b clear =
    let h = unpack-mode m (length bs) space e in
    again-either m h bs (unpacks m (length bs) space e).whole b clear (coloring m).four refl

-- "For ngp only where there are four": nothing else is refused but a buffer too short.
pub unpack-packed : (m : ℕ) (cs : List ℕ) (space : ℕ) → pack_says m cs space ≡ 0 → (free : ℕ)
    → unpack_says m (length (packed m cs)) free ≡ first_applying (7 when (eqb m ngp && not (eqb (length cs) 16)) ∷ 11 when ltb free (length cs) ∷ [])
unfolding unpack_says
unpack-packed m cs space e free =
    let h = pack-mode m cs space e in
    let le : m ≤ 15 = omega arith in
    let p = packs m cs space e in
    rw (le-ltb 15 m le, count-case m h cs space p (coloring m).four refl, length-packed m cs, accepted m h (length cs) p.whole)

-- "255 x result differs from value x m by at most 127."
pub nearest-near : (top v : ℕ) → (255 * reduced Nearest top v ≤ v * top + 127) × (v * top ≤ 255 * reduced Nearest top v + 127)
nearest-near top v = omega arith

-- "Reducing its result either way gives the start."
pub reduce-scaled : (how : Rounding) (m v : ℕ) → scale_says m v ≡ 0 → reduced how (row m).top (scaled_up (row m).top v) ≡ v
reduce-scaled how m v e =
    let passed = all-passed (1 when ltb 15 m ∷ 9 when ltb (row m).top v ∷ []) e in
    component-back how m (omega (arith, ltb-false 15 m (not-given 0 _ (passed 0)))) v (ltb-false (row m).top v (not-given 8 _ (passed 1)))
