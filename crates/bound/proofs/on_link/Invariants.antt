use Rattle.bound.proofs.Planes.{Summing}
use Rattle.bound.proofs.on_link.Given as goal

abbrev pub invariant-loop-byte : goal.invariant-loop-byte
invariant-loop-byte l = Summing l.seconds l.e l.sum l.byte-index
