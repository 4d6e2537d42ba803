-- Four bytes moved up by sixteen places at most stay below 2 ^ 32, and so does their sum.
use Rattle.words.proofs.Bits.{up-under}
use native.Mathlib.Omega.{arith}
use Rattle.color.proofs.color_places.ColorPlaces.word_with.Goals as goal

pub overflow_add-result : goal.overflow_add-result
overflow_add-result c =
    let at = c.args.self.inside in
    omega (arith, up-under 8 16 c.requires.0 at.0, up-under 8 16 c.requires.1 at.1)

pub overflow_add-result-2 : goal.overflow_add-result-2
overflow_add-result-2 c =
    let at = c.args.self.inside in
    omega (arith, up-under 8 16 c.requires.0 at.0, up-under 8 16 c.requires.1 at.1, up-under 8 16 c.requires.2 at.2)

pub overflow_add-result-3 : goal.overflow_add-result-3
overflow_add-result-3 c =
    let at = c.args.self.inside in
    omega (arith, up-under 8 16 c.requires.0 at.0, up-under 8 16 c.requires.1 at.1, up-under 8 16 c.requires.2 at.2, up-under 8 16 c.requires.3 at.3)
