use Rattle.std.proofs.Common.{drop}
use Rattle.scope.specs.Plan.{plan_of, path_of}
use Rattle.scope.specs.Lines.{message_slacks}
use Rattle.text.proofs.Laid.{Left}
use Rattle.verdict_text.proofs.message_slacks.Given as goal

abbrev pub invariant-loop-p : goal.invariant-loop-p
invariant-loop-p l =
    Left (message_slacks (plan_of l.good.row.now) l.m 0 (path_of (plan_of l.good.row.now) l.m)) l.initial.out l.at
    (message_slacks (plan_of l.good.row.now) l.m l.p (drop l.p (path_of (plan_of l.good.row.now) l.m))) l.out l.next
