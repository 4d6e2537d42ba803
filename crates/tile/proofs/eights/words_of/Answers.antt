use mathlib.Core.Path.{◌≡◌, subst}
use mathlib.Core.Bool.{false}
use Prim.Native.Nat.{ℕ, ◌*◌}
use native.Mathlib.Omega.{arith}
use Rattle.words.specs.Inner.{word_at}
use Rattle.tile.proofs.Filling.{Starts}
use Rattle.tile.proofs.Sides.{words-read}
use Rattle.tile.proofs.eights.words_of.Goals as goal

pub returns : goal.returns
returns c =
    let l = c.loop-i in
    let all : l.i ≡ c.args.n = omega arith in
    words-read c.args.bytes.now (λ i. (c.type_inv.bytes i).fits)
    (subst (λ (n : ℕ). Starts 8 (λ k. word_at false c.args.bytes.now (k * 8)) n l.ws) all l.invariant)
