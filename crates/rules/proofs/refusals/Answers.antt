-- `rules::refusals` meets its contract. Assumes nothing.
use Rattle.std.proofs.Common.{arith}
use Rattle.std.proofs.lemmas.Result.{err_from_is_err_and}
use Rattle.scope.specs.Plan.{plan_of}
use Rattle.rows.proofs.Walked.{walked}
use Rattle.rules.proofs.Laws as law
use Rattle.rules.proofs.refusals.Goals as goal

pub message_starts-starts-requires : goal.message_starts-starts-requires
message_starts-starts-requires c = omega (arith, (walked c.args.row.now c.requires).messages)

pub early_refusals-requires : goal.early_refusals-requires
early_refusals-requires c = (walked c.args.row.now c.requires, c.message_starts-starts.ensures)

pub returns-in_err-early_refusals : goal.returns-in_err-early_refusals
returns-in_err-early_refusals c =
    let p = err_from_is_err_and c.from_residual.result c.from_residual.ensures.1 in
    rw (p.1, p.2) (law.early_refused (plan_of c.args.row.now) _ c.in_err-early_refusals.ensures)

pub late_refusals-requires : goal.late_refusals-requires
late_refusals-requires c = (walked c.args.row.now c.requires, c.message_starts-starts.ensures)

pub returns : goal.returns
returns c = law.late_last (plan_of c.args.row.now) _ c.in_ok-early_refusals.ensures _ c.late_refusals.ensures
