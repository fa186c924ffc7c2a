use Rattle.strips.proofs.Costs.{Delaying}
use Rattle.strips.proofs.delay.Given as goal

abbrev pub invariant-loop-k : goal.invariant-loop-k
invariant-loop-k l = Delaying l.row l.counts l.i l.n l.sum l.k
