use Rattle.std.proofs.Common.{◌-◌}
use Rattle.text.proofs.Laid.{Left}
use Rattle.sheet_lines.specs.Sheet.{tally_lines}
use Rattle.sheet_lines.specs.Tally.{sums}
use Rattle.sheet_lines.proofs.sum_lines.Given as goal

abbrev pub invariant-loop-k : goal.invariant-loop-k
invariant-loop-k l = Left (tally_lines l.fn.t 0 sums) l.initial.out l.at (tally_lines l.fn.t l.k (sums - l.k)) l.out l.next
