-- `row_walk::walk_row` meets its contract: the edition, what comes before the messages, and these. Assumes nothing.
use Rattle.std.proofs.Common.{◌≡◌, ℕ, ◌<◌, ◌==◌, Bool, false, refl, sym, ◌∙◌, arith}
use borrow.Author.Tests.{eqb-true, eqb-false}
use Rattle.scope.proofs.Outcomes.{passed_on}
use Rattle.row_walk.proofs.Walk.{row-none, row-edition}
use Rattle.row_walk.proofs.Passing.{row_head, row-bad}
use Rattle.row_walk.proofs.walk_row.Goals as goal

some : (n : ℕ) (empty : Bool) → empty ≡ (n == 0) → empty ≡ false → 0 < n
some n empty e f = let none : n ≡ 0 → ⊥ = eqb-false n 0 (sym e ∙ f) in omega (arith, none)

pub returns-then-is_empty : goal.returns-then-is_empty
returns-then-is_empty c =
    c.refuse.ensures ∙ sym (row-none c.args.row.now (eqb-true _ 0 (sym c.is_empty.ensures ∙ c.if-is_empty.true)))

pub returns-then-number-ne1 : goal.returns-then-number-ne1
returns-then-number-ne1 c =
    c.refuse-then-number-ne1.ensures ∙ sym (row-edition c.args.row.now (some _ _ c.is_empty.ensures c.if-is_empty.false)
    (λ e. c.if-number-ne1.true (c.number.ensures.is ∙ e)))

pub walk_messages-requires : goal.walk_messages-requires
walk_messages-requires c = c.in_ok-i.ensures.inside _ refl

pub returns : goal.returns
returns c =
    row_head c.args.row.now (some _ _ c.is_empty.ensures c.if-is_empty.false) (sym c.number.ensures.is ∙ c.if-number-ne1.false) _ c.in_ok-i.ensures _ _ _
    refl c.messages.ensures.is c.walk_messages.ensures

pub returns-in_err-i : goal.returns-in_err-i
returns-in_err-i c =
    passed_on _ _ _ c.from_residual.ensures.1
    (row-bad c.args.row.now (some _ _ c.is_empty.ensures c.if-is_empty.false) (sym c.number.ensures.is ∙ c.if-number-ne1.false) _ c.in_err-i.ensures _ refl)
