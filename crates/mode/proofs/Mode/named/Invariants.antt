-- No mode before this number has the name.
use Rattle.std.proofs.Common.{◌≡◌, ◌-◌}
use Rattle.mode.specs.Names.{named_from, mode_named}
use Rattle.mode.proofs.Mode.named.Given as goal

abbrev pub invariant-loop-number : goal.invariant-loop-number
invariant-loop-number l = mode_named l.s ≡ named_from l.s l.number (16 - l.number)
