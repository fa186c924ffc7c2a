use Rattle.bound.proofs.Gathering.{Gathering}
use Rattle.bound.proofs.gather.Given as goal

abbrev pub invariant-loop-k : goal.invariant-loop-k
invariant-loop-k l = Gathering l.table l.slots l.initial.sets l.sets l.k
