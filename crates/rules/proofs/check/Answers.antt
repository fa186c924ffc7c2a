-- `rules::check` meets its contract: nothing comes after these rules. Assumes nothing.
use Rattle.scope.specs.Plan.{plan_of}
use Rattle.rules.proofs.Laws.{nothing_after}
use Rattle.rules.proofs.check.Goals as goal

pub returns-in-Ok : goal.returns-in-Ok
returns-in-Ok c = nothing_after (plan_of c.args.row.now) _ c.in-Ok.ensures

pub returns-in-Err : goal.returns-in-Err
returns-in-Err c = nothing_after (plan_of c.args.row.now) _ c.in-Err.ensures
