-- `row_walk::walk_second` meets its contract: its number of links, and these. Assumes nothing.
use Rattle.std.proofs.Common.{◌+◌, refl, sym, ap, arith}
use Rattle.scope.proofs.Outcomes.{passed_as}
use Rattle.row_walk.specs.Walk.{Passes}
use Rattle.row_walk.proofs.Parts.{fields_end, pass-then, pass-bad}
use Rattle.row_walk.proofs.Passing.{count_of_second, links_of_second}
use Rattle.row_walk.proofs.walk_second.Goals as goal

pub walk_fields-requires-2 : goal.walk_fields-requires-2
walk_fields-requires-2 c = ((fields_end c.args.row.now 4 1 c.args.i _ c.requires (sym c.in_ok-j.ensures)).1, omega arith)

pub returns : goal.returns
returns c =
    let a = c.args in
    let row = a.row.now in
    let end = fields_end row 4 1 a.i _ c.requires (sym c.in_ok-j.ensures) in
    pass-then row _ _ a.i _ _ (count_of_second row a.i c.requires _ c.in_ok-j.ensures) _ _ refl
    (links_of_second row _ end.1 _ _ _ (ap (λ n. n + 1) c.number.ensures.is) c.walk_fields-2.ensures)

pub returns-in_err-j : goal.returns-in_err-j
returns-in_err-j c =
    let a = c.args in
    passed_as (Passes a.row.now _ _ a.i) _ _ c.from_residual.ensures.1
    (pass-bad a.row.now _ _ a.i _ _ (count_of_second a.row.now a.i c.requires _ c.in_err-j.ensures) _ refl)
