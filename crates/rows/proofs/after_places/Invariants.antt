-- The invariant of `rows::after_places`: its promise, as far as the loop has come. Assumes nothing.
use Rattle.std.proofs.Common.{◌+◌, ◌*◌}
use Rattle.scope.specs.Plan.{after_places}
use Rattle.rows.specs.View.{Is}
use Rattle.rows.proofs.after_places.Given as goal

abbrev pub invariant-loop-k : goal.invariant-loop-k
invariant-loop-k l = Is (after_places l.row l.i l._k) (l.i + l._k * 65540) l.at
