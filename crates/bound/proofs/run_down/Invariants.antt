use Rattle.bound.proofs.Fronting.{Running}
use Rattle.bound.proofs.run_down.Given as goal

abbrev pub invariant-loop-x : goal.invariant-loop-x
invariant-loop-x l = Running l.initial.row l.row l.top l.x
