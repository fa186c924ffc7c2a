-- `plan::judge` meets its contract: refusals 1 to 4 come first, then 5 to 10 and 14 to 19. Assumes nothing.
use Rattle.std.proofs.Common.{sym}
use Rattle.scope.proofs.Outcomes.{passed_on}
use Rattle.plan.proofs.Ways as law
use Rattle.plan.proofs.judge.Goals as goal

pub check-requires : goal.check-requires
check-requires c = law.form_of _ _ (sym c.in_ok-n.ensures)

pub returns : goal.returns
returns c = law.judge-good _ _ _ (sym c.in_ok-n.ensures) (sym c.in_ok-check.ensures)

pub returns-in_err-check : goal.returns-in_err-check
returns-in_err-check c =
    passed_on _ _ _ c.from_residual-in_err-check.ensures.1 (law.judge-bad _ _ _ (sym c.in_ok-n.ensures) (sym c.in_err-check.ensures))

pub returns-in_err-n : goal.returns-in_err-n
returns-in_err-n c = passed_on _ _ _ c.from_residual.ensures.1 (law.judge-form _ _ (sym c.in_err-n.ensures))
