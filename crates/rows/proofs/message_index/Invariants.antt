-- The invariant of `rows::message_index`: its promise, as far as the loop has come. Assumes nothing.
use Rattle.std.proofs.Common.{◌+◌, ◌*◌}
use Rattle.scope.specs.SecondPath.{message_index}
use Rattle.rows.specs.View.{Is}
use Rattle.rows.proofs.message_index.Given as goal

abbrev pub invariant-loop-k : goal.invariant-loop-k
invariant-loop-k l = Is (message_index l.row l._k) (131077 + l._k * 4295229441) l.at
