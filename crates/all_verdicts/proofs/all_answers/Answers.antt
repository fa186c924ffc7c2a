-- `all_verdicts::all_answers` meets its contract: refusals 1 to 10 and 14 to 19, or what `answers_good` answers.
use Rattle.all_verdicts.proofs.Ways.{bad-row}
use Rattle.scope.proofs.Outcomes.{passed}
use Rattle.all_verdicts.specs.Answers.{AnswersAll}
use Rattle.all_verdicts.proofs.all_answers.Goals as goal

pub returns-in_err-good : goal.returns-in_err-good
returns-in_err-good c =
    passed (AnswersAll _ _ _ _) _ _ c.from_residual.ensures.1
    (bad-row c.args.row.now c.args.k
    c.args.out.now _
    c.in_err-good.ensures)
