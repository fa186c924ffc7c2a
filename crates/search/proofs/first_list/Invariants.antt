use Rattle.search.proofs.Hunting.{Passed}
use Rattle.search.proofs.first_list.Given as goal

abbrev pub invariant-loop-n : goal.invariant-loop-n
invariant-loop-n l = Passed l.row l.a l.n
