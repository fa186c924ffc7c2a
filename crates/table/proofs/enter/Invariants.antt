-- `table::enter` meets its contract. The invariant `Entering`: the places left, put into the table as it is, make what is asked. Assumes
-- nothing.
use Rattle.table.proofs.Laws.{Entering}
use Rattle.table.proofs.enter.Given as goal

abbrev pub invariant-loop-k : goal.invariant-loop-k
invariant-loop-k l = Entering l.row l.i l.w l.initial.table l.n l.at l._k l.table
