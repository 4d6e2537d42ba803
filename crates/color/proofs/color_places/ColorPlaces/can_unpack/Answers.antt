-- The lengths that unpacking takes.
use Rattle.color.proofs.Unpacking.{readable}
use Rattle.color.proofs.color_places.ColorPlaces.can_unpack.Goals as goal

pub returns-then-self-2 : goal.returns-then-self-2
returns-then-self-2 c = rw (c.if-self.false, c.if-self-2.true) at (readable c.args.self c.args.len)

pub returns : goal.returns
returns c = rw (c.if-self.false, c.if-self-2.false) at (readable c.args.self c.args.len)
