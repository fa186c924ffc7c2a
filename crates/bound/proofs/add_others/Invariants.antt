use Rattle.bound.proofs.Others.{AddingOthers}
use Rattle.bound.proofs.add_others.Given as goal

abbrev pub invariant-loop-e : goal.invariant-loop-e
invariant-loop-e l = AddingOthers l.others l.slots l.initial.plane l.plane l.e
