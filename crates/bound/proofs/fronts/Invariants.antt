use Rattle.bound.specs.Fronts.{Fronts}
use Rattle.bound.proofs.fronts.Given as goal

abbrev pub invariant-loop-s : goal.invariant-loop-s
invariant-loop-s l = Fronts l.weights l.s l.fronts
