use Rattle.bound.specs.Seconds.{second_in}
use Rattle.strips.proofs.Puts.{Passing}
use Rattle.strips.proofs.pass.Given as goal

abbrev pub invariant-loop-e : goal.invariant-loop-e
invariant-loop-e l = Passing (λ d. second_in l.ways d l.m) l.initial.counts l.counts l.e
