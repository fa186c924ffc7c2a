-- `row_walk::walk_message` meets its contract: how many places it has, and these. Assumes nothing.
use Rattle.std.proofs.Common.{refl, sym}
use Rattle.scope.proofs.Outcomes.{passed_as}
use Rattle.row_walk.specs.Walk.{Passes}
use Rattle.row_walk.proofs.Parts.{fields_end, pass-then, pass-bad}
use Rattle.row_walk.proofs.Passing.{count_of_message, places_of_message}
use Rattle.row_walk.proofs.walk_message.Goals as goal

pub walk_places-requires : goal.walk_places-requires
walk_places-requires c = (fields_end c.args.row.now 4 1 c.args.i _ c.requires (sym c.in_ok-j.ensures)).1

pub returns : goal.returns
returns c =
    let a = c.args in
    let row = a.row.now in
    pass-then row _ _ a.i _ _ (count_of_message row a.i c.requires _ c.in_ok-j.ensures) _ _ refl
    (places_of_message row _ _ _ _ c.place_count.ensures.is c.walk_places.ensures)

pub returns-in_err-j : goal.returns-in_err-j
returns-in_err-j c =
    let a = c.args in
    passed_as (Passes a.row.now _ _ a.i) _ _ c.from_residual.ensures.1
    (pass-bad a.row.now _ _ a.i _ _ (count_of_message a.row.now a.i c.requires _ c.in_err-j.ensures) _ refl)
