use Rattle.bound.specs.Weights.{TopOf}
use Rattle.bound.proofs.Weights.{Topping}
use Rattle.bound.proofs.tops.Given as goal

abbrev pub invariant-loop-s : goal.invariant-loop-s
invariant-loop-s l = Topping (TopOf l.weights) l.slots l.most l.top l.s
