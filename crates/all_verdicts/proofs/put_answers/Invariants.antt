use Rattle.all_verdicts.proofs.Putting.{Putting}
use Rattle.all_verdicts.proofs.put_answers.Given as goal

abbrev pub invariant-loop-l : goal.invariant-loop-l
invariant-loop-l l = Putting l.from l.to l.head l.numbers l.initial.out l.l l.out
