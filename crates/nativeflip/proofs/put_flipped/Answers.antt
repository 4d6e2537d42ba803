-- Each arm turns its packing's bytes.
use mathlib.Core.Path.{◌∙◌}
use Rattle.tile.specs.declared.Packing.TheVariants.{Planar, Ngp, Plain}
use Rattle.nativeflip.proofs.Sides.{rows-asked, planes-asked, nibbles-asked, turned-in, nibbles-turned}
use Rattle.nativeflip.proofs.put_flipped.Goals as goal

pub put_planes-requires : goal.put_planes-requires
put_planes-requires c = planes-asked c.requires c.in-Planar.group c.in-Planar.depth c.in-Planar.is

pub put_pixels-requires : goal.put_pixels-requires
put_pixels-requires c = rows-asked c.requires Ngp c.in-Ngp.is c.args.f.h (λ e. tt)

pub put_pixels-requires-in-Plain : goal.put_pixels-requires-in-Plain
put_pixels-requires-in-Plain c = rows-asked c.requires Plain c.in-Plain.is c.args.f.h (λ e. tt)

pub put_pixels-requires-in_default : goal.put_pixels-requires-in_default
put_pixels-requires-in_default c = nibbles-asked c.args.p c.requires c.in_default.in_default-own.keys4 c.args.f.h

pub returns-in-Planar : goal.returns-in-Planar
returns-in-Planar c = c.put_planes.ensures ∙ turned-in c.requires (Planar c.in-Planar.group c.in-Planar.depth) c.in-Planar.is c.args.f

pub returns-in-Ngp : goal.returns-in-Ngp
returns-in-Ngp c = c.put_pixels.ensures ∙ turned-in c.requires Ngp c.in-Ngp.is c.args.f

pub returns-in-Plain : goal.returns-in-Plain
returns-in-Plain c = c.put_pixels-in-Plain.ensures ∙ turned-in c.requires Plain c.in-Plain.is c.args.f

pub returns-in_default : goal.returns-in_default
returns-in_default c = c.put_pixels-in_default.ensures ∙ nibbles-turned c.args.p c.requires c.in_default.in_default-own.keys4 c.args.f
