-- `faults::bad_slots` meets its contract. The invariant: the places left, from the least slot allowed on, decide. Assumes nothing.
use Prim.Native.Nat.{◌-◌}
use mathlib.Core.Path.{◌≡◌}
use Rattle.scope.specs.Plan.{plan_of, place_count, places_at, message_at}
use Rattle.scope.specs.Good.{slots_rise}
use Rattle.faults.proofs.Laws.{Passing}
use Rattle.faults.proofs.bad_slots.Given as goal

abbrev pub invariant-loop-k : goal.invariant-loop-k
invariant-loop-k l = Passing l.row l.i (place_count l.row l.i) l.at l._k ×
    (slots_rise l.t l.least (places_at l.row l.at (place_count l.row l.i - l._k)) ≡ slots_rise (plan_of l.row).timeout 0 (message_at l.row l.i))
