-- The table's rule, at the byte.
use mathlib.Core.Path.{◌∙◌}
use native.Mathlib.Omega.{arith}
use borrow.Author.Rules.{rules}
use Rattle.nativeflip.proofs.turns.reversed_byte.Goals as goal

pub returns : goal.returns
returns c = (c.from.ensures ∙ c.requires.0.entry _ (omega arith), search rules)
