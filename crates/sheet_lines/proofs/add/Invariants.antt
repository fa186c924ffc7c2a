use Rattle.sheet_lines.proofs.Adding.{Summed}
use Rattle.sheet_lines.proofs.add.Given as goal

abbrev pub invariant-loop-k : goal.invariant-loop-k
invariant-loop-k l = Summed l.messages l.figures l.initial.sums l.k l.sums
