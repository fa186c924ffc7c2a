use Rattle.scope.specs.Plan.{plan_of}
use Rattle.verdict_text.specs.Layout.{LaidUntil}
use Rattle.whole_verdict.proofs.table.Given as goal

abbrev pub invariant-loop-k : goal.invariant-loop-k
invariant-loop-k l = LaidUntil (plan_of l.row) l.n l.k l.initial.out l.out l.next
