use Rattle.risks.specs.Weighed.{AreAway}
use Rattle.risks.proofs.away.Given as goal

abbrev pub invariant-loop-m : goal.invariant-loop-m
invariant-loop-m l = AreAway l.fn.standing.positions l.m l.set
