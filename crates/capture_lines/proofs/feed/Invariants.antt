use Rattle.std.proofs.Common.{take}
use Rattle.scope.specs.Plan.{plan_of}
use Rattle.capture_lines.specs.Reads.{Feeds}
use Rattle.capture_lines.proofs.feed.Given as goal

abbrev pub invariant-loop-b : goal.invariant-loop-b
invariant-loop-b l = Feeds (plan_of l.row) (take l.b-index l.piece) l.initial.crossed l.initial.r l.crossed l.r
