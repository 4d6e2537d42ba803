-- The constant's rule is shown where it is lent: the test is computed over its 256 entries.
use Rattle.tile.specs.Bits.{from_bits}
use Rattle.nativeflip.specs.Flipping.{reversed}
use Rattle.nativeflip.proofs.Words.{table-reverses}
use Rattle.nativeflip.proofs.put_mirrored.Goals as goal

pub put_reversed-requires : goal.put_reversed-requires
unfolding reversed from_bits
put_reversed-requires c = (table-reverses _ tt, c.requires)
