use Rattle.strips.proofs.Paths.{CountingAll}
use Rattle.strips.proofs.count_all.Given as goal

abbrev pub invariant-loop-m : goal.invariant-loop-m
invariant-loop-m l = CountingAll l.row l.n l.at l.m l.counts l.ways
