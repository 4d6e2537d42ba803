-- Each arm stores what its packing says.
use mathlib.Core.Path.{◌≡◌, ap, ◌∙◌}
use Prim.Native.Nat.{ℕ, ◌+◌, ◌-◌, ◌<◌}
use native.Mathlib.Omega.{arith}
use lib.ListN.{get_or, take, drop}
use lib.Seq.{sets}
use Rattle.tile.specs.Inner.{pixel_count, packed_in, PacksWhole}
use Rattle.tile.specs.declared.Packing.{Packing}
use Rattle.tile.specs.declared.Packing.TheVariants.{Plain}
use Rattle.tile.proofs.Filling.{part_small}
use Rattle.tile.proofs.Packings.{packs-in, same_bytes, packs-whole}
use Rattle.tile.proofs.Packed.{plain-bytes}
use Rattle.tile.proofs.tiles.put_tile.Goals as goal
use Rattle.tile.proofs.tiles.put_tile.Goals.{After-tile-1}

-- it is a whole tile, and what is stored of it is what is to be stored
part : (c : After-tile-1) → PacksWhole c.args.p (take (c.args.from + c.pixel_count.result - c.args.from) (drop c.args.from c.args.pixels.now)) c.args.out.now c.args.at
part c = packs-whole c.requires c.pixel_count.ensures

same : (c : After-tile-1) → (q : Packing) → c.args.p ≡ q → (sets c.args.out.now c.args.at (packed_in q (take (c.args.from + c.pixel_count.result - c.args.from) (drop c.args.from c.args.pixels.now)))) ≡ (sets c.args.out.now c.args.at (packed_in c.args.p (take (pixel_count c.args.p) (drop c.args.from c.args.pixels.now))))
same c q e = same_bytes q e c.args.pixels.now c.args.out.now c.args.at c.args.from c.pixel_count.result c.pixel_count.ensures

-- plain bytes are stored as they are
plain : (c : After-tile-1) → c.args.p ≡ Plain → take (c.args.from + c.pixel_count.result - c.args.from) (drop c.args.from c.args.pixels.now) ≡ packed_in Plain (take (c.args.from + c.pixel_count.result - c.args.from) (drop c.args.from c.args.pixels.now))
plain c e =
    plain-bytes (take (c.args.from + c.pixel_count.result - c.args.from) (drop c.args.from c.args.pixels.now)) (packs-in Plain e (part c)).whole
    (λ i l. part_small c.args.pixels.now c.args.from (c.args.from + c.pixel_count.result - c.args.from) i small (omega (arith, c.pixel_count.ensures, ap pixel_count e)))
  where
    small : (i : ℕ) → get_or c.args.pixels.now i 0 < 256
    small i = (c.type_inv.pixels i).fits

pub returns-in-Plain : goal.returns-in-Plain
returns-in-Plain c =
    let e = c.in-Plain.is in
    c.put_plain.ensures ∙ ap (λ l. sets c.args.out.now c.args.at l) (plain (goal.at.returns-in-Plain c).After-tile-1 e) ∙ same (goal.at.returns-in-Plain c).After-tile-1 Plain e
