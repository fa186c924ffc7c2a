-- `faults::lowest_repeat` meets its contract. The invariant `Repeating`: no link passed repeats another, and the sets have where they lead.
-- Assumes nothing.
use Rattle.scope.specs.Plan.{link_count}
use Rattle.faults.proofs.Repeats.{Repeating}
use Rattle.faults.proofs.lowest_repeat.Given as goal

abbrev pub invariant-loop-e : goal.invariant-loop-e
invariant-loop-e l = Repeating l.row (link_count l.row) l.e l.met
