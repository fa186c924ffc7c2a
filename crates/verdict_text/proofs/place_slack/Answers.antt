-- `verdict_text::place_slack` meets its contract: by what `spare` answers, a line or nothing.
use Rattle.verdict_text.proofs.Slacks.{answered-line, no_line, nothing_put}
use Rattle.plan.proofs.Ways.{known_good}
use Rattle.verdict_text.proofs.place_slack.Goals as goal

pub slack_line-requires : goal.slack_line-requires
slack_line-requires c =
    rw (answered-line _ _ _ _ _ c.slack_of_good.ensures c.in-Ok.is) at c.requires

pub returns-in-Ok : goal.returns-in-Ok
returns-in-Ok c =
    rw (answered-line _ _ _ _ _ c.slack_of_good.ensures c.in-Ok.is)
    c.slack_line.ensures

pub returns-in-Err : goal.returns-in-Err
returns-in-Err c = nothing_put (no_line _ _ _ _ _ (known_good _ c.args.good.is_good) c.slack_of_good.ensures
    c.in-Err.is)
