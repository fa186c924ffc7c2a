-- `row_walk::walk_messages` meets its contract. The loop's invariant: what is left gives the whole answer. Assumes nothing.
use Rattle.std.proofs.Common.{◌-◌}
use Rattle.scope.specs.Fields.{next_message}
use Rattle.row_walk.specs.Walk.{rest_of}
use Rattle.row_walk.proofs.Passing.{Going}
use Rattle.row_walk.proofs.walk_messages.Given as goal

abbrev pub invariant-loop-m : goal.invariant-loop-m
invariant-loop-m l = Going l.row (rest_of l.row (next_message l.n) l.i) (next_message (l.n - l._m)) l.at
