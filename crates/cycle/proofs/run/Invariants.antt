-- `cycle::run` meets its contract. The loop's invariant: what is told, with what is still to tell, is all. Assumes nothing.
use Prim.Native.Nat.{◌-◌}
use Rattle.scope.specs.Plan.{plan_of}
use Rattle.scope.specs.Cycle.{order_of}
use Rattle.table.specs.Table.{entry_at}
use Rattle.cuts.specs.Down.{cut_below}
use Rattle.cycle.proofs.Slots.{Running}
use Rattle.cycle.proofs.run.Given as goal

abbrev pub invariant-loop-i : goal.invariant-loop-i
invariant-loop-i l =
    Running l.row l.n (order_of (plan_of l.row)) (cut_below l.others l.cuts) (entry_at l.table) l.timeout l.standing.time.0 l.at l.initial.standing.positions
    l.standing.positions l.initial.out l.out

abbrev pub decreases-loop-i : goal.decreases-loop-i
decreases-loop-i l = l.timeout - l.standing.time.0
