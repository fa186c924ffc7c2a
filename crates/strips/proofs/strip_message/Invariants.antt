use Rattle.strips.proofs.Strips.{Stripping}
use Rattle.strips.proofs.strip_message.Given as goal

abbrev pub invariant-loop-k : goal.invariant-loop-k
invariant-loop-k l = Stripping l.row l.i l.m l.initial.fragile l.initial.seconds l.n l.at l._k l.fragile l.seconds
