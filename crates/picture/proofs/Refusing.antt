-- What a host is told of a picture that is refused.
-- Assumes nothing.
use mathlib.Core.Path.{◌≡◌}
use Prim.Native.Nat.{ℕ}
use Rattle.std.specs.Prelude.{Result, Ok, Err}
use Rattle.std.specs.Result.{IsErr}
use Rattle.words.specs.InnerResults.{refusal_number, answered}
use Rattle.words.specs.declared.refusal.Refusal.{Refusal}
use Rattle.words.proofs.Answers.{either_way}
use Rattle.picture.specs.Converting.{pictured}
use Rattle.picture.specs.InnerResults.{picture_by}
use Rattle.picture.specs.declared.Counts.{Counts}

pub picture-refused : (e : Refusal) → picture_by (Err e) ≡ pictured (refusal_number e) 0 0 0 0
picture-refused e = rw (either_way {A = ℕ} (refusal_number e) 0)

pub picture-again : (r : Result Counts Refusal) → IsErr r → picture_by r ≡ pictured (answered r) 0 0 0 0
picture-again (Ok k) h = cc
picture-again (Err e) h = picture-refused e
