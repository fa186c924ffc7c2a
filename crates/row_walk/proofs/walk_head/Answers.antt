-- `row_walk::walk_head` meets its contract: V and E, then M, then t and the ends of the links. Assumes nothing.
use Rattle.std.proofs.Common.{◌+◌, ◌*◌, refl, sym, ap, arith}
use Rattle.scope.proofs.Outcomes.{passed_as}
use Rattle.row_walk.specs.Walk.{Passes}
use Rattle.row_walk.proofs.Parts.{fields_end, pass-then, pass-bad}
use Rattle.row_walk.proofs.Passing.{sizes_of_plan, messages_of_plan, links_of_plan}
use Rattle.row_walk.proofs.walk_head.Goals as goal

pub walk_fields-requires-2 : goal.walk_fields-requires-2
walk_fields-requires-2 c = ((fields_end c.args.row.now 6 2 1 _ c.requires (sym c.in_ok-i.ensures)).1, omega arith)

pub walk_fields-requires-3 : goal.walk_fields-requires-3
walk_fields-requires-3 c =
    let row = c.args.row.now in
    let end = fields_end row 6 2 1 _ c.requires (sym c.in_ok-i.ensures) in
    ((fields_end row 5 1 _ _ end.1 (sym c.in_ok-j.ensures)).1, omega arith)

pub returns : goal.returns
returns c =
    let row = c.args.row.now in
    let end = fields_end row 6 2 1 _ c.requires (sym c.in_ok-i.ensures) in
    pass-then row _ _ 1 _ _ (sizes_of_plan row c.requires _ c.in_ok-i.ensures) _ _ refl
    (pass-then row _ _ _ _ _ (messages_of_plan row _ end.1 _ _ end.0 c.in_ok-j.ensures) _ _ refl
    (links_of_plan row _ (fields_end row 5 1 _ _ end.1 (sym c.in_ok-j.ensures)).1 _ _ _ _ (ap (λ n. n * 2 + 1) c.links.ensures.is)
    c.walk_fields-3.ensures))

pub returns-in_err-i : goal.returns-in_err-i
returns-in_err-i c =
    let row = c.args.row.now in
    passed_as (Passes row _ _ 1) _ _ c.from_residual.ensures.1
    (pass-bad row _ _ 1 _ _ (sizes_of_plan row c.requires _ c.in_err-i.ensures) _ refl)

pub returns-in_err-j : goal.returns-in_err-j
returns-in_err-j c =
    let row = c.args.row.now in
    let end = fields_end row 6 2 1 _ c.requires (sym c.in_ok-i.ensures) in
    passed_as (Passes row _ _ 1) _ _ c.from_residual-in_err-j.ensures.1
    (pass-then row _ _ 1 _ _ (sizes_of_plan row c.requires _ c.in_ok-i.ensures) _ _ refl
    (pass-bad row _ _ _ _ _ (messages_of_plan row _ end.1 _ _ end.0 c.in_err-j.ensures) _ refl))
