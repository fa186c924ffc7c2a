-- `faults::places_fault` meets its contract. The invariant: of the places passed the earliest rule is kept. Assumes nothing.
use Rattle.scope.specs.Plan.{plan_of, place_count, message_at}
use Rattle.faults.proofs.Laws.{Passing}
use Rattle.faults.proofs.Seconds.{Placing}
use Rattle.faults.proofs.places_fault.Given as goal

abbrev pub invariant-loop-k : goal.invariant-loop-k
invariant-loop-k l = Passing l.row l.i (place_count l.row l.i) l.at l.k × Placing (plan_of l.row) l.end (message_at l.row l.i) l.k l.found
