-- Refused with the number, or the flipped tile at the front of the buffer.
use mathlib.Core.Path.{sym, ap, ◌∙◌}
use Prim.Native.Nat.{ℕ}
use Rattle.words.specs.Answers.{written}
use Rattle.words.proofs.Answers.{done}
use Rattle.flip.specs.Flips.{flip}
use Rattle.nativeflip.proofs.Checks.{flip_asks, flip-length, flip-leaves}
use Rattle.nativeflip.proofs.flip_tile.Goals as goal

pub put_flipped-requires : goal.put_flipped-requires
put_flipped-requires c = let r = c.in_ok-p.ensures in flip_asks _ _ _ _ r.packing (sym r.says)

pub returns : goal.returns
returns c =
    let a = c.args in
    let r = c.in_ok-p.ensures in
    let f = flip a.flip_h a.flip_v in
    done (sym r.says)
    (ap (λ (n : ℕ). written 0 n) (flip-length _ _ a.bytes.now a.out.now r.packing (sym r.says) f))
    (c.put_flipped.ensures ∙ flip-leaves _ _ _ _ r.packing (sym r.says) f)
