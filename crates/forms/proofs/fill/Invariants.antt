-- `forms::fill` meets its contract. The loop's invariant: what is read so far and what is left give the whole row and the whole answer;
-- what can follow falls with each field. Assumes nothing.
use Rattle.grammar.proofs.Most.{numbers}
use Rattle.forms.proofs.Filling.{OnFile}
use Rattle.forms.proofs.fill.Given as goal

abbrev pub invariant-loop-s : goal.invariant-loop-s
invariant-loop-s l = OnFile l.file l.initial.row l.row l.s l.p l.i

abbrev pub decreases-loop-s : goal.decreases-loop-s
decreases-loop-s l = numbers l.s
