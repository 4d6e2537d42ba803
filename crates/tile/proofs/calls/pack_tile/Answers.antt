-- Refused with the number, or the tile's bytes at the front of the buffer.
use mathlib.Core.Path.{◌≡◌, sym, ap, ◌∙◌}
use Prim.Native.Nat.{ℕ}
use Rattle.words.specs.Answers.{written}
use Rattle.words.proofs.Answers.{done}
use Rattle.tile.specs.Tile.{packing_of}
use Rattle.tile.proofs.Checks.{pack-asks, pack-length, pack-leaves}
use Rattle.tile.proofs.calls.pack_tile.Goals as goal
use Rattle.tile.proofs.calls.pack_tile.Goals.{After-packing_of-p}

-- the packing is the mode's
is : (c : After-packing_of-p) → let a = c.args in c.packing_of-p.result ≡ packing_of a.mode a.depth a.width a.height
is c = let a = c.args in c.packing_of-p.ensures ∙ ap (λ (m : ℕ). packing_of m a.depth a.width a.height) c.in_ok-m.ensures.mode

pub put_tile-requires : goal.put_tile-requires
put_tile-requires c = pack-asks _ _ _ _ _ _ (is (goal.at.put_tile-requires c).After-packing_of-p) (sym c.in_ok-m.ensures.says)

pub byte_count-requires : goal.byte_count-requires
byte_count-requires c = (pack-asks _ _ _ _ _ c.args.out.now (is (goal.at.byte_count-requires c).After-packing_of-p) (sym c.in_ok-m.ensures.says)).sound

pub returns : goal.returns
returns c =
    let e = is (goal.at.returns c).After-packing_of-p in
    let passed = sym c.in_ok-m.ensures.says in
    done passed
    (ap (λ (n : ℕ). written 0 n) (c.byte_count.ensures ∙ pack-length _ _ _ _ _ c.args.out.now e passed))
    (c.put_tile.ensures ∙ pack-leaves _ _ _ _ _ _ e passed)
