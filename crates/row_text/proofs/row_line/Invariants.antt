use Rattle.std.proofs.Common.{drop}
use Rattle.text.proofs.Laid.{Left}
use Rattle.row_text.specs.Rows.{row_line}
use Rattle.row_text.proofs.row_line.Given as goal

abbrev pub invariant-loop-i : goal.invariant-loop-i
invariant-loop-i l = Left (row_line l.row) l.initial.out 0 (row_line (drop l.i l.row)) l.out l.next
