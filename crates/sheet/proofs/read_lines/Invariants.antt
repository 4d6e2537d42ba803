-- The lines before line k told the first k values, and the rest is read from place start on.
use Rattle.std.proofs.Common.{◌≡◌, ◌≤◌, [], length, take, drop}
use Rattle.sheet.specs.Sheet.{sheet_lines, lines_from}
use Rattle.sheet.proofs.read_lines.Given as goal

abbrev pub invariant-loop-k : goal.invariant-loop-k
invariant-loop-k l =
    record {
      inside : l.start ≤ length l.s;
      size : length l.values ≡ length sheet_lines;
      read : lines_from sheet_lines l.s 0 [] ≡ lines_from (drop l.k sheet_lines) l.s l.start (take l.k l.values);
    }
