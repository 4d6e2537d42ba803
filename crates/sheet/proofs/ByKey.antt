-- What is computed of each of the thirteen keys.
-- Assumes nothing.
use Prim.Native.Nat.{◌≤◌}
use mathlib.Core.Path.{◌≡◌, refl}
use mathlib.Core.Bool.{false}
use native.Mathlib.Omega.{arith}
use lib.ListN.{length}
use Rattle.sheet.specs.Keys.{key_of, is_name}
use Rattle.sheet.specs.Inner.{text_most}
use Rattle.sheet.specs.declared.keys.Key.{Key}
use Rattle.sheet.specs.declared.keys.Key.TheVariants.{Mode, Depth, Flip, Discard, Limit, Palette, Columns, Rows, Tiles, Discarded, TileBytes, MapBytes, Refused}

-- no key is longer than a text
pub key-length : (k : Key) → length (key_of k) ≤ text_most
unfolding key_of
key-length Mode = omega arith
key-length Depth = omega arith
key-length Flip = omega arith
key-length Discard = omega arith
key-length Limit = omega arith
key-length Palette = omega arith
key-length Columns = omega arith
key-length Rows = omega arith
key-length Tiles = omega arith
key-length Discarded = omega arith
key-length TileBytes = omega arith
key-length MapBytes = omega arith
key-length Refused = omega arith

-- the text of the mode's line alone is a name
pub other-name : (k : Key) → (k ≡ Mode → ⊥) → is_name k ≡ false
other-name Mode n = absurd (n refl)
other-name Depth n = refl
other-name Flip n = refl
other-name Discard n = refl
other-name Limit n = refl
other-name Palette n = refl
other-name Columns n = refl
other-name Rows n = refl
other-name Tiles n = refl
other-name Discarded n = refl
other-name TileBytes n = refl
other-name MapBytes n = refl
other-name Refused n = refl
