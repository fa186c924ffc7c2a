use Rattle.bound.proofs.Weights.{Weighing}
use Rattle.bound.proofs.weigh_from.Given as goal

abbrev pub invariant-loop-k : goal.invariant-loop-k
invariant-loop-k l = Weighing l.table l.links l.slots l.weights l.k
