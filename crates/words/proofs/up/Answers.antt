-- Moving up is multiplying.
use native.Mathlib.Nat.{mod-eq_of_lt}
use Rattle.words.proofs.Bits.{up_small}
use Rattle.words.proofs.up.Goals as goal

pub returns : goal.returns
returns c = mod-eq_of_lt (up_small c.args.x c.args.places c.requires.0 c.requires.1)
