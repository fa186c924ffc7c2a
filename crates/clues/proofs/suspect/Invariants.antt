use Prim.Native.Nat.{◌+◌, ◌-◌}
use Rattle.clues.proofs.Suspecting.{Suspects}
use Rattle.clues.proofs.suspect.Given as goal

abbrev pub invariant-loop-i : goal.invariant-loop-i
invariant-loop-i l = Suspects l.row l.table l.crossed l.z l.n l.initial.down l.initial.qs l.initial.i l.down l.qs l.named l.i

abbrev pub decreases-loop-i : goal.decreases-loop-i
decreases-loop-i l = l.z.timeout - l.i + (l.n - l.named)
