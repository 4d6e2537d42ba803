use mathlib.Core.Path.{refl}
use native.Mathlib.Nat.{mul-pos}
use native.Mathlib.Omega.{arith}
use Rattle.tileset.proofs.Sizes.{IsSet, set-of}
use Rattle.tileset.proofs.shape.Shape.area.Goals as goal

pub overflow_mul-result : goal.overflow_mul-result
overflow_mul-result c = omega (arith, (set-of _ _ _ _ c.args.self.now.allowed).small)

pub returns : goal.returns
returns c =
    let z = c.args.self.now in
    let s : IsSet z.mode z.depth z.width z.height = set-of _ _ _ _ z.allowed in
    (refl, (mul-pos s.some s.tall, s.small))
