-- `rules::refuse_paths` meets its contract: the earliest rule that some message breaks is the one that is refused. Assumes nothing.
use Rattle.std.proofs.Common.{Some, None, refl, length}
use Rattle.scope.specs.Plan.{plan_of}
use Rattle.rows.proofs.Parts.{message-count}
use Rattle.rules.specs.Rules.{PlanFault}
use Rattle.rules.proofs.Laws as law
use Rattle.rules.proofs.refuse_paths.Goals as goal

pub returns-in-Some : goal.returns-in-Some
returns-in-Some c =
    let row = c.args.row.now in
    let plan = plan_of row in
    let fault = c.in-Some.fault in
    let all : PlanFault plan c.args.paths (length plan.messages) (Some fault) = rw (message-count row) c.in-Some.ensures in
    law.paths_broken plan c.args.paths (Some fault) all (law.order-few fault.rule) _ c.number_of-no.ensures _ c.refusal_on.ensures

pub returns-in-None : goal.returns-in-None
returns-in-None c =
    let row = c.args.row.now in
    let plan = plan_of row in
    let all : PlanFault plan c.args.paths (length plan.messages) None = rw (message-count row) c.in-None.ensures in
    law.paths_kept plan c.args.paths None all refl
