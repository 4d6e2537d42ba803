-- The digits from place from on are written, and left has those before them.
use Rattle.std.proofs.Common.{◌≡◌, ◌^◌, ◌<◌, ◌≤◌, ◌++◌, length, drop}
use Rattle.sheet.specs.Numbers.{digits_of, decimal}
use Rattle.sheet.specs.Inner.{text_most}
use Rattle.sheet.proofs.text.Numeral.new.Given as goal

abbrev pub invariant-loop-left : goal.invariant-loop-left
invariant-loop-left l =
    record {
      some : 0 < l.from;
      most : l.from ≤ text_most;
      few : l.left < 10 ^ l.from;
      size : length l.bytes ≡ text_most;
      digits : decimal l.n ≡ digits_of l.from l.left ++ drop l.from l.bytes;
    }

abbrev pub decreases-loop-left : goal.decreases-loop-left
decreases-loop-left l = l.left
