-- `verdicts::verdict` meets its contract: refusals 1 to 10 and 14 to 19, or what `verdict_good` answers.
use Rattle.verdicts.proofs.Ways.{bad-row}
use Rattle.scope.proofs.Outcomes.{passed}
use Rattle.verdicts.specs.Verdict.{Answered}
use Rattle.verdicts.proofs.verdict.Goals as goal

pub returns-in_err-good : goal.returns-in_err-good
returns-in_err-good c =
    passed (Answered _ _ _ _ _) _ _ c.from_residual.ensures.1
    (bad-row c.args.row.now c.args.k
    c.args.l c.args.list.now _
    c.in_err-good.ensures)
