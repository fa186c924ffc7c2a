-- `explanations::explain` meets its contract: refusals 1 to 10 and 14 to 19, or what `explain_row` answers.
use Rattle.explanations.proofs.Ways.{bad-row}
use Rattle.scope.proofs.Outcomes.{passed}
use Rattle.explanations.specs.Explained.{Answered}
use Rattle.explanations.proofs.explain.Goals as goal

pub returns-in_err-good : goal.returns-in_err-good
returns-in_err-good c =
    passed (Answered _ _ _ _ _) _ _ c.from_residual.ensures.1
    (bad-row c.args.row.now
    c.args.k
    c.args.capture.now
    c.args.list.now _
    c.in_err-good.ensures)
