use Rattle.strips.proofs.Paths.{Counting}
use Rattle.strips.proofs.count_message.Given as goal

abbrev pub invariant-loop-k : goal.invariant-loop-k
invariant-loop-k l = Counting l.row l.i l.m l.initial.counts l.initial.ways l.n l.at l._k l.counts l.ways
