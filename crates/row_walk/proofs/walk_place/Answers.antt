-- `row_walk::walk_place` meets its contract: its link and slot, its flag, and the second path if there is one. Assumes nothing.
use Rattle.std.proofs.Common.{refl, sym, ◌∙◌, arith}
use Rattle.scope.proofs.Outcomes.{passed_as}
use Rattle.row_walk.specs.Walk.{Passes}
use Rattle.row_walk.proofs.Parts.{fields_end, pass-then, pass-bad}
use Rattle.row_walk.proofs.Passing.{held_of_place, flag_of_place, flag-set, flag-clear}
use Rattle.row_walk.proofs.walk_place.Goals as goal

pub walk_fields-requires-2 : goal.walk_fields-requires-2
walk_fields-requires-2 c = ((fields_end c.args.row.now 6 2 c.args.i _ c.requires (sym c.in_ok-at.ensures)).1, omega arith)

pub walk_second-requires : goal.walk_second-requires
walk_second-requires c =
    let a = c.args in
    let held = fields_end a.row.now 6 2 a.i _ c.requires (sym c.in_ok-at.ensures) in
    (fields_end a.row.now 1 1 _ _ held.1 (sym c.in_ok-j.ensures)).1

pub returns-then-number-eq1 : goal.returns-then-number-eq1
returns-then-number-eq1 c =
    let a = c.args in
    let row = a.row.now in
    let end = fields_end row 6 2 a.i _ c.requires (sym c.in_ok-at.ensures) in
    pass-then row _ _ a.i _ _ (held_of_place row a.i c.requires _ c.in_ok-at.ensures) _ _ refl
    (pass-then row _ _ _ _ _ (flag_of_place row _ end.1 _ c.in_ok-j.ensures) _ _ refl
    (flag-set row _ _ _ (sym c.number.ensures.is ∙ c.if-number-eq1.true) c.walk_second.ensures))

pub returns-else-number-eq1 : goal.returns-else-number-eq1
returns-else-number-eq1 c =
    let a = c.args in
    let row = a.row.now in
    let end = fields_end row 6 2 a.i _ c.requires (sym c.in_ok-at.ensures) in
    pass-then row _ _ a.i _ _ (held_of_place row a.i c.requires _ c.in_ok-at.ensures) _ _ refl
    (pass-then row _ _ _ _ _ (flag_of_place row _ end.1 _ c.in_ok-j.ensures) _ _ refl
    (flag-clear row _ _ (λ e. c.if-number-eq1.false (c.number.ensures.is ∙ e))
    (fields_end row 1 1 _ _ end.1 (sym c.in_ok-j.ensures)).1))

pub returns-in_err-at : goal.returns-in_err-at
returns-in_err-at c =
    let a = c.args in
    passed_as (Passes a.row.now _ _ a.i) _ _ c.from_residual.ensures.1
    (pass-bad a.row.now _ _ a.i _ _ (held_of_place a.row.now a.i c.requires _ c.in_err-at.ensures) _ refl)

pub returns-in_err-j : goal.returns-in_err-j
returns-in_err-j c =
    let a = c.args in
    let row = a.row.now in
    let end = fields_end row 6 2 a.i _ c.requires (sym c.in_ok-at.ensures) in
    passed_as (Passes row _ _ a.i) _ _ c.from_residual-in_err-j.ensures.1
    (pass-then row _ _ a.i _ _ (held_of_place row a.i c.requires _ c.in_ok-at.ensures) _ _ refl
    (pass-bad row _ _ _ _ _ (flag_of_place row _ end.1 _ c.in_err-j.ensures) _ refl))
