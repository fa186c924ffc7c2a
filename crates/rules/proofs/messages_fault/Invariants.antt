-- `rules::messages_fault` meets its contract. The invariant: of the messages passed the earliest rule is kept. Assumes nothing.
use Rattle.scope.specs.Plan.{plan_of}
use Rattle.rules.specs.Rules.{PlanFault}
use Rattle.rules.proofs.messages_fault.Given as goal

abbrev pub invariant-loop-m : goal.invariant-loop-m
invariant-loop-m l = PlanFault (plan_of l.row) l.paths l.m l.found
