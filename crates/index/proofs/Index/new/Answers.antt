use Rattle.std.proofs.lemmas.List.{get_or-replicate}
use Rattle.index.proofs.Index.new.Goals as goal

pub returns : goal.returns
returns c = λ b p. get_or-replicate 4096 b 0 0 p
