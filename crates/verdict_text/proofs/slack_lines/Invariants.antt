use Rattle.std.proofs.Common.{drop}
use Rattle.scope.specs.Plan.{plan_of}
use Rattle.scope.specs.Lines.{slack_lines}
use Rattle.text.proofs.Laid.{Left}
use Rattle.verdict_text.proofs.slack_lines.Given as goal

abbrev pub invariant-loop-m : goal.invariant-loop-m
invariant-loop-m l =
    Left (slack_lines (plan_of l.good.row.now) 0 (plan_of l.good.row.now).messages) l.initial.out l.at
    (slack_lines (plan_of l.good.row.now) l.m (drop l.m (plan_of l.good.row.now).messages)) l.out l.next
