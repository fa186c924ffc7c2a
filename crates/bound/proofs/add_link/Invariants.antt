use Rattle.bound.proofs.Others.{AddingLink}
use Rattle.bound.proofs.add_link.Given as goal

abbrev pub invariant-loop-s : goal.invariant-loop-s
invariant-loop-s l = AddingLink l.e l.o l.initial.plane l.plane l.s
