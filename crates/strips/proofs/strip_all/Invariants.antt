use Rattle.strips.proofs.Strips.{StrippingAll}
use Rattle.strips.proofs.strip_all.Given as goal

abbrev pub invariant-loop-m : goal.invariant-loop-m
invariant-loop-m l = StrippingAll l.row l.n l.at l.m l.counts l.fragile l.seconds
