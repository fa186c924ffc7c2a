-- `faults::held_below` meets its contract. The invariant: the places left decide. Assumes nothing.
use Prim.Native.Nat.{◌-◌}
use mathlib.Core.Path.{◌≡◌}
use Rattle.scope.specs.Plan.{place_count, places_at, message_at}
use Rattle.faults.specs.Broken.{held_below}
use Rattle.faults.proofs.Laws.{Passing}
use Rattle.faults.proofs.held_below.Given as goal

abbrev pub invariant-loop-k : goal.invariant-loop-k
invariant-loop-k l = Passing l.row l.i (place_count l.row l.i) l.at l._k ×
    (held_below l.table l.m (places_at l.row l.at (place_count l.row l.i - l._k)) ≡ held_below l.table l.m (message_at l.row l.i))
