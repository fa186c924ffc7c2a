-- `cables::other_ways` meets its contract. The invariant: the other way of each link passed is found. Assumes nothing.
use Rattle.scope.specs.Plan.{plan_of}
use Rattle.cables.proofs.Bytes.{Finding}
use Rattle.cables.proofs.other_ways.Given as goal

abbrev pub invariant-loop-e : goal.invariant-loop-e
invariant-loop-e l = Finding (plan_of l.row) l.e l.others
