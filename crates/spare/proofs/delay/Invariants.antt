-- `spare::delay` meets its contract. The invariant: what is summed and what is left to sum make the whole. Assumes nothing.
use Prim.Native.Nat.{◌+◌, ◌-◌, ◌*◌, ◌≤◌}
use mathlib.Core.Path.{◌≡◌}
use Rattle.spare.proofs.Loops.{delay_at}
use Rattle.spare.proofs.delay.Given as goal

abbrev pub invariant-loop-k : goal.invariant-loop-k
invariant-loop-k l =
    (l.sum + delay_at l.row l.m (l.i + l.k) (l.n - l.k) ≡ delay_at l.row l.m l.i l.n) × (l.sum ≤ l.k * 4295032833)
