-- Each arm stores what its packing says.
use mathlib.Core.Path.{◌≡◌, ap, ◌∙◌}
use Prim.Native.Nat.{ℕ, ◌+◌, ◌-◌, ◌<◌}
use native.Mathlib.Omega.{arith}
use lib.ListN.{get_or, take, drop}
use lib.Seq.{sets}
use Rattle.tile.specs.Inner.{byte_count, unpacked_in, UnpacksWhole}
use Rattle.tile.specs.declared.Packing.{Packing}
use Rattle.tile.specs.declared.Packing.TheVariants.{Plain}
use Rattle.tile.proofs.Filling.{part_small}
use Rattle.tile.proofs.Packings.{unpacks-in, same-pixels, unpacks-whole}
use Rattle.tile.proofs.Packed.{plain-pixels}
use Rattle.tile.proofs.tiles.put_pixels.Goals as goal
use Rattle.tile.proofs.tiles.put_pixels.Goals.{After-tile-1}

-- it is a whole tile, and what is stored of it is what is to be stored
part : (c : After-tile-1) → UnpacksWhole c.args.p (take (c.args.from + c.byte_count.result - c.args.from) (drop c.args.from c.args.bytes.now)) c.args.out.now c.args.at
part c = unpacks-whole c.requires c.byte_count.ensures

same : (c : After-tile-1) → (q : Packing) → c.args.p ≡ q → (sets c.args.out.now c.args.at (unpacked_in q (take (c.args.from + c.byte_count.result - c.args.from) (drop c.args.from c.args.bytes.now)))) ≡ (sets c.args.out.now c.args.at (unpacked_in c.args.p (take (byte_count c.args.p) (drop c.args.from c.args.bytes.now))))
same c q e = same-pixels q e c.args.bytes.now c.args.out.now c.args.at c.args.from c.byte_count.result c.byte_count.ensures

-- plain bytes are stored as they are
plain : (c : After-tile-1) → c.args.p ≡ Plain → take (c.args.from + c.byte_count.result - c.args.from) (drop c.args.from c.args.bytes.now) ≡ unpacked_in Plain (take (c.args.from + c.byte_count.result - c.args.from) (drop c.args.from c.args.bytes.now))
plain c e =
    plain-pixels (take (c.args.from + c.byte_count.result - c.args.from) (drop c.args.from c.args.bytes.now)) (unpacks-in Plain e (part c)).whole
    (λ i l. part_small c.args.bytes.now c.args.from (c.args.from + c.byte_count.result - c.args.from) i small (omega (arith, c.byte_count.ensures, ap byte_count e)))
  where
    small : (i : ℕ) → get_or c.args.bytes.now i 0 < 256
    small i = (c.type_inv.bytes i).fits

pub returns-in-Plain : goal.returns-in-Plain
returns-in-Plain c =
    let e = c.in-Plain.is in
    c.put_plain.ensures ∙ ap (λ l. sets c.args.out.now c.args.at l) (plain (goal.at.returns-in-Plain c).After-tile-1 e) ∙ same (goal.at.returns-in-Plain c).After-tile-1 Plain e
