-- `paths::path_fault` meets its contract. The invariant `Walking`: the marks are those of the vertices met, and of the rules that were broken
-- the earliest is kept. Assumes nothing.
use Rattle.scope.specs.Plan.{plan_of}
use Rattle.paths.proofs.Walk.{Walking}
use Rattle.paths.proofs.path_fault.Given as goal

abbrev pub invariant-loop-k : goal.invariant-loop-k
invariant-loop-k l = Walking (plan_of l.row) l.path l.v l.at l.k l.met l.found
