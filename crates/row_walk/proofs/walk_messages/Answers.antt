use Rattle.std.proofs.Common.{◌≡◌, ◌-◌, ◌+◌, refl, ap, ◌∙◌, subst, arith}
use Rattle.scope.specs.Fields.{next_message}
use Rattle.scope.proofs.Outcomes.{passed_on}
use Rattle.row_walk.specs.Walk.{rest_of}
use Rattle.row_walk.proofs.Passing.{Going, going_next, going-bad, message_turn, messages-more, messages-done}
use Rattle.row_walk.proofs.walk_messages.Goals as goal

pub loop-m-init : goal.loop-m-init
loop-m-init c =
    let a = c.args in
    let all : a.n ≡ a.n - 0 = omega arith in
    record { same = ap (λ k. rest_of a.row.now (next_message k) a.i) all; inside = c.requires }

pub walk_message-requires : goal.walk_message-requires
walk_message-requires c = c.loop-m.invariant.inside

pub returns-in_err-at : goal.returns-in_err-at
returns-in_err-at c =
    let a = c.args in
    let at = c.loop-m in
    let turn = message_turn a.row.now (a.n - at._m) at.at _ (omega (arith, c.loop-m-test.true)) c.in_err-at.ensures in
    passed_on _ _ _ c.from_residual.ensures.1 (going-bad a.row.now _ _ (next_message (a.n - at._m - 1)) at.at at.invariant _ turn _ refl)

pub loop-m-preserved : goal.loop-m-preserved
loop-m-preserved c =
    let a = c.args in
    let at = c.loop-m in
    let less : a.n - at._m - 1 ≡ a.n - (at._m + 1) = omega arith in
    let turn = message_turn a.row.now (a.n - at._m) at.at _ (omega (arith, c.loop-m-test.true)) c.in_ok-at.ensures in
    subst (λ k. Going a.row.now (rest_of a.row.now (next_message a.n) a.i) (next_message k) c.in_ok-at.at) less
    (going_next a.row.now _ _ _ at.at at.invariant _ turn _ refl (c.in_ok-at.ensures.inside _ refl))

pub returns-then-at-row : goal.returns-then-at-row
returns-then-at-row c =
    c.refuse.ensures ∙ messages-more _ _ _ _ c.loop-m.invariant (omega (arith, c.loop-m-test.false)) c.if-at-row.true

pub returns-else-at-row : goal.returns-else-at-row
returns-else-at-row c = messages-done _ _ _ _ c.loop-m.invariant (omega (arith, c.loop-m-test.false)) c.if-at-row.false
