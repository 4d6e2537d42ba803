-- There are no more lines than pieces passed, and no more differences than lines.
use Rattle.std.proofs.Common.{◌+◌, ◌≤◌}
use Rattle.replay.proofs.replay.Given as goal

abbrev pub invariant-loop-ended : goal.invariant-loop-ended
invariant-loop-ended l =
    (goal.iterator-loop-ended).can_next l.ended-iterator
    × (goal.iterator-loop-ended).is_finite l.ended-iterator
    × (l.lines + (goal.iterator-loop-ended).remaining l.ended-iterator ≤ (goal.iterator-loop-ended).remaining l.initial.ended-iterator)
    × (l.different ≤ l.lines)
