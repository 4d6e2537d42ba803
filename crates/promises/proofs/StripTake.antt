-- The promise of `rumchivoat_strip_take`. The check reads every other promise by itself, and not that of a function that is lent a record: so this one is
-- read here, by the check's own rules, out of the contract that the function is proved to meet.
-- Assumes nothing.
use mathlib.Core.Path.{refl}
use base.Logic.{emp}
use borrow.Fn.Claims.{AllOf}
use borrow.Fn.Read.{Read, no_know, r_last, all_models}
use contract.Lifetimes.{Lfts}
use denote.Triple.Clauses.{AtExit}
use denote.Triple.Entry.{Args, Res}
use Rattle.words.proofs.Results.{Promise}
use Rattle.rumchivoat.specs.contracts.rumchivoat_strip_take as call

-- the clause is one plain fact
abbrev reading : (κs : Lfts 4) (a : Args call.signature κs) (x : Res call.signature κs) (s : AtExit call.ended κs)
    → Read (λ w. emp w.𝓤) no_know (λ w. (call.clauses w.𝓛 w.𝓜.mem w.𝓡.run κs a).ensures tt x s)
reading κs a x s = all_models _ (λ w. r_last _) (λ w. refl) (λ w. refl) (λ w. refl)

abbrev pub Post : Promise call.ended
Post κs a x s = AllOf (reading κs a x s).owes
