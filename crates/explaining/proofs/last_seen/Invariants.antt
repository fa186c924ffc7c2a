use Rattle.explaining.specs.Walk.{Lasts}
use Rattle.explaining.proofs.last_seen.Given as goal

abbrev pub invariant-loop-k : goal.invariant-loop-k
invariant-loop-k l = Lasts l.crossed l.z l.last
