-- `rules::late_refusals` meets its contract: the table says which places are taken. Assumes nothing.
use Rattle.std.proofs.Common.{rules}
use Rattle.std.proofs.lemmas.Result.{err_from_is_err_and}
use Rattle.scope.specs.Plan.{plan_of}
use Rattle.scope.specs.Good.{bad_table}
use Rattle.rules.proofs.Laws as law
use Rattle.rules.proofs.late_refusals.Goals as goal

pub returns-in_err-refuse_lowest : goal.returns-in_err-refuse_lowest
returns-in_err-refuse_lowest c =
    let row = c.args.row.now in
    let p = err_from_is_err_and c.from_residual.result c.from_residual.ensures.1 in
    rw (p.1, p.2)
    (law.table_refused row _ c.messages-messages.ensures.is _
    (c.in_err-refuse_lowest.ensures (bad_table (plan_of row))
    (λ m b l p. law.by_table row c.args.starts.now c.requires.0 c.requires.1 _ c.messages-messages.ensures.is m l b
    c.fill_table.new.table c.fill_table.ensures (search rules))))

pub returns : goal.returns
returns c =
    let row = c.args.row.now in
    law.seconds_last row _ c.messages-messages.ensures.is _
    (c.in_ok-refuse_lowest.ensures (bad_table (plan_of row))
    (λ m b l p. law.by_table row c.args.starts.now c.requires.0 c.requires.1 _ c.messages-messages.ensures.is m l b
    c.fill_table.new.table c.fill_table.ensures (search rules)))
    _ c.refuse_paths.ensures
