use mathlib.Core.Path.{◌≡◌, refl}
use native.Mathlib.Omega.{arith}
use Rattle.words.proofs.Filling.{filled-next-one, filled-front}
use Rattle.mode7.specs.Block.{pair_count, tile_half, map_half}
use Rattle.mode7.proofs.put_halves.Goals as goal

pub loop-i-preserved : goal.loop-i-preserved
loop-i-preserved c =
    let l = c.loop-i in
    (filled-next-one l.invariant.0, filled-next-one l.invariant.1)

pub returns : goal.returns
unfolding tile_half map_half
returns c =
    let l = c.loop-i in
    let all : l.i ≡ pair_count = omega arith in (
      filled-front 1 pair_count (λ j. refl) l.invariant.0 all (omega (arith, c.requires.tiles-fit)),
      filled-front 1 pair_count (λ j. refl) l.invariant.1 all (omega (arith, c.requires.map-fits)),
    )
