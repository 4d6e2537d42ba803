use mathlib.Core.Path.{◌≡◌, subst}
use Prim.Native.Nat.{ℕ}
use native.Mathlib.Omega.{arith}
use Rattle.tile.proofs.Filling.{Starts}
use Rattle.tile.proofs.Columns.{turned, columns-read}
use Rattle.tile.proofs.planes.column_words.Goals as goal

pub returns : goal.returns
returns c =
    let l = c.loop-i in
    let all : l.i ≡ c.args.n = omega arith in
    columns-read c.args.bytes.now (λ i. (c.type_inv.bytes i).fits) c.requires
    (subst (λ (n : ℕ). Starts 8 (turned c.args.bytes.now) n l.ws) all l.invariant)
