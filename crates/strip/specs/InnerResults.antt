-- What the calls of a run come to as a host is told of them: the contracts of functions inside are over it, and no export's contract and no law
-- reaches it.
-- Assumes nothing.
use Rattle.std.specs.Prelude.{Result, Ok, Err}
use Rattle.words.specs.InnerResults.{refusal_number}
use Rattle.words.specs.declared.refusal.Refusal.{Refusal}
use Rattle.picture.specs.InnerResults.{picture_by}
use Rattle.strip.specs.Strips.{no_run, Stepped, stepped}
use Rattle.strip.specs.declared.Run.{Run}
use Rattle.strip.specs.declared.RunAnswer.{RunAnswer}
use Rattle.strip.specs.declared.Step.{Step}

-- The start that a result comes to.
abbrev pub run_answer_by : Result Run Refusal → RunAnswer
run_answer_by (Ok r) = record { refusal = 0; run = r }
run_answer_by (Err e) = record { refusal = refusal_number e; run = no_run }

-- What a result comes to: where the strip was refused, the record is the one that was given.
abbrev pub step_by : Run → Result Step Refusal → Stepped
step_by r (Ok s) = stepped (picture_by (Ok s.counts)) s.run
step_by r (Err e) = stepped (picture_by (Err e)) r
