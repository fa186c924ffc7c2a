use Prim.Native.Nat.{◌≤◌}
use Rattle.explaining.proofs.Hunting.{Hunting}
use Rattle.explaining.proofs.first_list.Given as goal

abbrev pub invariant-loop-n : goal.invariant-loop-n
invariant-loop-n l = Hunting l.row l.crossed l.k l.n × (l.v.named ≤ l.n)
