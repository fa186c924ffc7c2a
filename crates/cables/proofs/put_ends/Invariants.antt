-- `cables::put_ends` meets its contract. The invariant: the table is of the links passed, from the last down. Assumes nothing.
use Rattle.scope.specs.Plan.{plan_of}
use Rattle.cables.specs.Ends.{EndsFrom}
use Rattle.cables.proofs.put_ends.Given as goal

abbrev pub invariant-loop-e : goal.invariant-loop-e
invariant-loop-e l = EndsFrom (plan_of l.row) l.e l.table
