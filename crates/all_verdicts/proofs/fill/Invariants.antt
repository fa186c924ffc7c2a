use Rattle.all_verdicts.proofs.Descending.{Descending}
use Rattle.all_verdicts.proofs.fill.Given as goal

abbrev pub invariant-loop-found : goal.invariant-loop-found
invariant-loop-found l = Descending l.row l.board l.k l.initial.out l.l l.low l.out

abbrev pub decreases-loop-found : goal.decreases-loop-found
decreases-loop-found l = l.l
