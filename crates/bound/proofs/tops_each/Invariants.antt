use Rattle.bound.proofs.Planes.{Topped}
use Rattle.bound.proofs.tops_each.Given as goal

abbrev pub invariant-loop-j : goal.invariant-loop-j
invariant-loop-j l = Topped l.weights l.slots l.most l.j
