-- `spare::entries` meets its contract. The invariant: what is counted and what is left to count make the whole. Assumes nothing.
use Prim.Native.Nat.{◌+◌, ◌-◌, ◌*◌, ◌≤◌}
use mathlib.Core.Path.{◌≡◌}
use Rattle.scope.specs.Plan.{message_count, messages_at, plan_of}
use Rattle.scope.specs.Spare.{entries}
use Rattle.spare.proofs.entries.Given as goal

abbrev pub invariant-loop-k : goal.invariant-loop-k
invariant-loop-k l =
    (l.sum + entries l.e (messages_at l.row l.at (message_count l.row - l._k)) ≡ entries l.e (plan_of l.row).messages) ×
    (l.at ≤ 131077 + l._k * 4295229441) × (l.sum ≤ l._k * 65536)
