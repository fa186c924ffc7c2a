-- `spare::slack` meets its contract: refusals 1 to 10 and 14 to 19 come first. Assumes nothing.
use Rattle.spare.proofs.Ways as law
use Rattle.scope.proofs.Outcomes.{passed}
use Rattle.spare.specs.Slack.{Slacks}
use Rattle.spare.proofs.slack.Goals as goal

pub returns-in_err-good : goal.returns-in_err-good
returns-in_err-good c =
    passed (Slacks _ _ _) _ _ c.from_residual.ensures.1
    (law.bad-row _ _ _ _ c.in_err-good.ensures)
