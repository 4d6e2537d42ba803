-- Refused with the number, or the tile's pixels at the front of the buffer.
use mathlib.Core.Path.{◌≡◌, sym, ap, ◌∙◌}
use Prim.Native.Nat.{ℕ}
use Rattle.words.specs.Answers.{written}
use Rattle.words.proofs.Answers.{done}
use Rattle.tile.specs.Tile.{packing_of}
use Rattle.tile.proofs.Checks.{unpack-asks, unpack-length, unpack-leaves}
use Rattle.tile.proofs.calls.unpack_tile.Goals as goal
use Rattle.tile.proofs.calls.unpack_tile.Goals.{After-packing_of-p}

-- the packing is the mode's
is : (c : After-packing_of-p) → let a = c.args in c.packing_of-p.result ≡ packing_of a.mode a.depth a.width a.height
is c = let a = c.args in c.packing_of-p.ensures ∙ ap (λ (m : ℕ). packing_of m a.depth a.width a.height) c.in_ok-m.ensures.mode

pub put_pixels-requires : goal.put_pixels-requires
put_pixels-requires c = unpack-asks _ _ _ _ _ _ (is (goal.at.put_pixels-requires c).After-packing_of-p) (sym c.in_ok-m.ensures.says)

pub pixel_count-requires : goal.pixel_count-requires
pixel_count-requires c = (unpack-asks _ _ _ _ _ c.args.out.now (is (goal.at.pixel_count-requires c).After-packing_of-p) (sym c.in_ok-m.ensures.says)).sound

pub returns : goal.returns
returns c =
    let e = is (goal.at.returns c).After-packing_of-p in
    let passed = sym c.in_ok-m.ensures.says in
    done passed
    (ap (λ (n : ℕ). written 0 n) (c.pixel_count.ensures ∙ unpack-length _ _ _ _ _ c.args.out.now e passed))
    (c.put_pixels.ensures ∙ unpack-leaves _ _ _ _ _ _ e passed)
