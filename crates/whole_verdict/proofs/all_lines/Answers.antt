-- `whole_verdict::all_lines` meets its contract: the lines under each k up to the highest, and then the slack lines.
use native.Mathlib.Omega.{arith}
use Rattle.scope.specs.Plan.{plan_of}
use Rattle.verdict_text.proofs.Room.{slacks_size}
use Rattle.verdict_text.proofs.Composing.{few-high, laid-whole, laid-small}
use Rattle.plan.proofs.Ways.{known_good}
use Rattle.whole_verdict.proofs.all_lines.Goals as goal

pub overflow_add-highest : goal.overflow_add-highest
overflow_add-highest c = let few = few-high (plan_of c.args.good.row.now) _ _
    c.requires c.highest.ensures in omega arith

pub table-next-requires : goal.table-next-requires
table-next-requires c =
    let few = few-high (plan_of c.args.good.row.now) _ _ c.requires c.highest.ensures in omega arith

pub slack_lines-requires : goal.slack_lines-requires
slack_lines-requires c =
    let few = few-high (plan_of c.args.good.row.now) _ _ c.requires
    c.highest.ensures in laid-small _ _ (omega arith) c.table-next.ensures

pub returns : goal.returns
returns c =
    laid-whole (plan_of c.args.good.row.now) _ _ c.requires
    c.highest.ensures (slacks_size _ (known_good _ c.args.good.is_good))
    c.table-next.ensures c.slack_lines.ensures
