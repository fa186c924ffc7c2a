-- `rules::early_refusals` meets its contract: each rule says what is refused, or leaves it to those after it. Assumes nothing.
use Rattle.std.proofs.Common.{rules}
use Rattle.std.proofs.lemmas.Result.{err_from_is_err_and}
use Rattle.scope.specs.Plan.{plan_of}
use Rattle.scope.specs.Good.{bad_ends, bad_slots}
use Rattle.rules.proofs.Laws as law
use Rattle.rules.proofs.early_refusals.Goals as goal

pub returns-in_err-refuse_lowest : goal.returns-in_err-refuse_lowest
returns-in_err-refuse_lowest c =
    let row = c.args.row.now in
    let p = err_from_is_err_and c.from_residual.result c.from_residual.ensures.1 in
    rw (p.1, p.2)
    (law.ends_refused row _ c.links.ensures.is _
    (c.in_err-refuse_lowest.ensures (bad_ends (plan_of row)) (λ m b l p. search rules)))

pub returns-in-Some : goal.returns-in-Some
returns-in-Some c =
    let row = c.args.row.now in
    rw c.refusal_at.ensures
    (law.repeat_refused row _ c.links.ensures.is _
    (c.in_ok-refuse_lowest.ensures (bad_ends (plan_of row)) (λ m b l p. search rules)) _ c.in-Some.ensures)

pub returns-in_err-refuse_paths : goal.returns-in_err-refuse_paths
returns-in_err-refuse_paths c =
    let row = c.args.row.now in
    let p = err_from_is_err_and c.from_residual-in_err-refuse_paths.result c.from_residual-in_err-refuse_paths.ensures.1 in
    rw (p.1, p.2)
    (law.paths_refused row _ c.links.ensures.is _
    (c.in_ok-refuse_lowest.ensures (bad_ends (plan_of row)) (λ m b l p. search rules))
    c.in_default.ensures _ c.in_err-refuse_paths.ensures)

pub returns : goal.returns
returns c =
    let row = c.args.row.now in
    let plan = plan_of row in
    law.slots_last row _ c.links.ensures.is _
    (c.in_ok-refuse_lowest.ensures (bad_ends plan) (λ m b l p. search rules))
    c.in_default.ensures _ c.in_ok-refuse_paths.ensures _ c.messages-messages.ensures.is _
    (c.refuse_lowest-2.ensures (bad_slots plan)
    (λ m b l p. law.by_slots row c.args.starts.now c.requires.0 c.requires.1 _ c.messages-messages.ensures.is m l b (search rules)))
