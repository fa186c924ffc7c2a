-- `spare::through` meets its contract. The invariant: the places left have such a second path exactly if all have one. Assumes nothing.
use Prim.Native.Nat.{◌+◌, ◌-◌, ◌*◌, ◌≤◌}
use mathlib.Core.Path.{◌≡◌}
use Rattle.scope.specs.Plan.{places_at}
use Rattle.scope.specs.Spare.{has_second_through}
use Rattle.spare.proofs.through.Given as goal

abbrev pub invariant-loop-k : goal.invariant-loop-k
invariant-loop-k l =
    (has_second_through l.e (places_at l.row l.at (l.n - l._k)) ≡ has_second_through l.e (places_at l.row l.i l.n)) × (l.at ≤ l.i + l._k * 65540)
