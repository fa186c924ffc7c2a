-- `plan::accept` meets its contract: the rules come first, then the room. Assumes nothing.
use Rattle.std.proofs.Common.{sym}
use Rattle.scope.proofs.Outcomes.{passed}
use Rattle.plan.specs.Answers.{Accepts}
use Rattle.plan.proofs.Ways as law
use Rattle.plan.proofs.accept.Goals as goal

pub returns-then-n-row : goal.returns-then-n-row
returns-then-n-row c = law.accepted _ _ _ _ (sym c.in_ok-check.ensures) c.if-n-row.true c.copy.ensures

pub returns-else-n-row : goal.returns-else-n-row
returns-else-n-row c = law.no_room _ _ _ _ (sym c.in_ok-check.ensures) c.if-n-row.false c.refuse.ensures

pub returns-in_err-check : goal.returns-in_err-check
returns-in_err-check c =
    passed (Accepts _ _ _) _ _ c.from_residual.ensures.1 (law.broken _ _ _ (sym c.in_err-check.ensures))
