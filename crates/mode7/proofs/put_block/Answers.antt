use mathlib.Core.Path.{◌≡◌, refl}
use native.Mathlib.Omega.{arith}
use Rattle.words.proofs.Filling.{filled-front}
use Rattle.mode7.specs.Block.{pair_count, block_of}
use Rattle.mode7.proofs.Pairs.{next, ended}
use Rattle.mode7.proofs.put_block.Goals as goal

pub loop-i-preserved : goal.loop-i-preserved
loop-i-preserved c = next c.args.tiles.now c.args.map.now c.loop-i.invariant refl refl c.put_pair.ensures

pub loop-i-2-preserved : goal.loop-i-2-preserved
loop-i-2-preserved c =
    let tiles = c.args.tiles.now in
    next tiles c.args.map.now c.loop-i-2.invariant refl (ended tiles _ (omega (arith, c.min-both.ensures))) c.put_pair-in-loop-i-2.ensures

pub loop-i-3-preserved : goal.loop-i-3-preserved
loop-i-3-preserved c =
    let map = c.args.map.now in
    next c.args.tiles.now map c.loop-i-3.invariant (ended map _ (omega arith)) refl c.put_pair-in-loop-i-3.ensures

pub loop-i-4-preserved : goal.loop-i-4-preserved
loop-i-4-preserved c =
    let tiles = c.args.tiles.now in
    let map = c.args.map.now in
    let past = c.max-either.ensures in
    next tiles map c.loop-i-4.invariant (ended map _ (omega (arith, past))) (ended tiles _ (omega (arith, past))) c.put_pair-in-loop-i-4.ensures

pub returns : goal.returns
unfolding block_of
returns c =
    let all : c.loop-i-4.i ≡ pair_count = omega (arith, c.max-either.ensures, c.requires.tiles-fit, c.requires.map-fits) in
    filled-front 2 pair_count (λ j. refl) c.loop-i-4.invariant all c.requires.block-fits
