use Rattle.std.proofs.Common.{◌≡◌, length}
use Rattle.scope.specs.Plan.{plan_of}
use Rattle.explain.specs.Shown.{Going}
use Rattle.explain.proofs.read_capture.Given as goal

abbrev pub invariant-loop-turn : goal.invariant-loop-turn
invariant-loop-turn l =
    (length l.piece ≡ 4096) × Going (plan_of l.row) l.crossed l.reading l.turn
