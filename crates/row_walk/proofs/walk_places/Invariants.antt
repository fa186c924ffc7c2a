-- `row_walk::walk_places` meets its contract. The loop's invariant: what is left gives the whole answer, whatever comes behind it. Assumes nothing.
use Rattle.std.proofs.Common.{ℕ, ◌-◌}
use Rattle.scope.specs.Fields.{next_place}
use Rattle.row_walk.specs.Walk.{rest_of}
use Rattle.row_walk.proofs.Passing.{Going}
use Rattle.row_walk.proofs.walk_places.Given as goal

abbrev pub invariant-loop-p : goal.invariant-loop-p
invariant-loop-p l = (m : ℕ) → Going l.row (rest_of l.row (next_place l.n m) l.i) (next_place (l.n - l._p) m) l.at
