-- `row_walk::walk_fields` meets its contract. The loop's invariant: what is left gives the whole answer. Assumes nothing.
use Rattle.row_walk.proofs.Parts.{OnFields}
use Rattle.row_walk.proofs.walk_fields.Given as goal

abbrev pub invariant-loop-k : goal.invariant-loop-k
invariant-loop-k l = OnFields l.row l.w l.n l.i l.k
