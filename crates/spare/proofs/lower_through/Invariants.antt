-- `spare::lower_through` meets its contract. The invariant: what is counted and what is left to count make the whole. Assumes nothing.
use Prim.Native.Nat.{◌+◌, ◌-◌, ◌*◌, ◌≤◌}
use mathlib.Core.Path.{◌≡◌}
use Rattle.scope.specs.Plan.{message_count, messages_at, plan_of}
use Rattle.scope.specs.Cycle.{by_number}
use Rattle.scope.specs.Spare.{lower_through}
use Rattle.spare.proofs.lower_through.Given as goal

abbrev pub invariant-loop-j : goal.invariant-loop-j
invariant-loop-j l =
    (l.sum + lower_through by_number l.m l.e l._j (messages_at l.row l.at (message_count l.row - l._j)) ≡ lower_through by_number l.m l.e 0 (plan_of l.row).messages) ×
    (l.at ≤ 131077 + l._j * 4295229441) × (l.sum ≤ l._j)
