-- The pixels are cut into a buffer, and looked for.
use mathlib.Core.Path.{◌≡◌, ap, ◌∙◌}
use mathlib.Core.List.{List}
use Prim.Native.Nat.{ℕ, ◌≤◌}
use native.Mathlib.Omega.{arith}
use lib.ListN.{length, take}
use Rattle.tileset.specs.Sets.{area}
use Rattle.tileset.specs.Finding.{cut_to, tiles_in, look_up, found_in}
use Rattle.tileset.proofs.Stores.{cut-front}
use Rattle.tileset.proofs.finding.found_in.Goals as goal
use Rattle.tileset.proofs.finding.found_in.Goals.{After-put_cut}

short : (c : After-put_cut) → length c.args.pixels.now ≤ 4096
short c = omega (arith, c.requires.whole, c.requires.small)

tile-is : (c : After-put_cut) → take (length c.args.pixels.now) c.put_cut.new.out ≡ cut_to c.args.set.depth c.args.pixels.now
tile-is c = ap (take (length c.args.pixels.now)) c.put_cut.ensures ∙ cut-front c.args.set.depth c.args.pixels.now _ (omega (arith, short c))

pub returns : goal.returns
unfolding found_in
returns c =
    let z = c.args.set in
    let tiles = tiles_in (area z) c.args.store.now z.stored in
    c.find.ensures ∙ ap (λ (t : List ℕ). look_up z.flips z.width z.height tiles t) (tile-is (goal.at.returns c).After-put_cut)
