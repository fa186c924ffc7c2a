-- `probe_questions::slack_row` meets its contract: one line for each case of the answer.
use Rattle.probe_questions.proofs.Lines.{puts_as, slots_line, no_slots_line}
use Rattle.probe_questions.proofs.slack_row.Goals as goal

pub returns-in-Ok : goal.returns-in-Ok
returns-in-Ok c =
    let slack = c.slack.ensures in
    puts_as (slots_line _ _ _ _ _ slack c.in-Ok.is) c.told_slack.ensures

pub returns-in-Err : goal.returns-in-Err
returns-in-Err c =
    let slack = c.slack.ensures in
    puts_as (no_slots_line _ _ _ _ _ slack c.in-Err.is) c.told_refusal.ensures
