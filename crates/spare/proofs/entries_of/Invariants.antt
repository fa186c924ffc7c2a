-- `spare::entries_of` meets its contract. The invariant: what is counted and what is left to count make the whole. Assumes nothing.
use Prim.Native.Nat.{◌+◌, ◌-◌, ◌*◌, ◌≤◌}
use mathlib.Core.Path.{◌≡◌}
use Rattle.scope.specs.Plan.{places_at}
use Rattle.scope.specs.Spare.{entries_of}
use Rattle.spare.proofs.entries_of.Given as goal

abbrev pub invariant-loop-k : goal.invariant-loop-k
invariant-loop-k l =
    (l.sum + entries_of l.e (places_at l.row l.at (l.n - l._k)) ≡ entries_of l.e (places_at l.row l.i l.n)) × (l.at ≤ l.i + l._k * 65540) × (l.sum ≤ l._k)
