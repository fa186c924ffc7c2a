use Rattle.bound.specs.Weights.{Added}
use Rattle.bound.proofs.weigh_both.Given as goal

abbrev pub invariant-loop-k : goal.invariant-loop-k
invariant-loop-k l = Added l.touches l.strips l.k l.both
