-- `probe_questions::of_place` meets its contract: one line for each thing that is asked.
use mathlib.Core.Path.{refl}
use Rattle.probe_questions.proofs.Lines.{puts_as, placed}
use Rattle.probe_questions.proofs.Lent.{too_few, behind}
use Rattle.probe_questions.proofs.of_place.Goals as goal

pub returns-then-given-lt2 : goal.returns-then-given-lt2
returns-then-given-lt2 c = puts_as (too_few _ _ _ _ refl c.if-given-lt2.true) c.unknown.ensures

pub returns-in-Slack : goal.returns-in-Slack
returns-in-Slack c =
    let given = c.args.given.now in
    puts_as
    (placed _ _ given _ _ _ c.in-Slack.is (behind given 2) c.number-m.ensures.is c.number-p.ensures.is c.if-given-lt2.false)
    c.slack_row.ensures

pub returns-in-Second : goal.returns-in-Second
returns-in-Second c =
    let given = c.args.given.now in
    puts_as
    (placed _ _ given _ _ _ c.in-Second.is (behind given 2) c.number-m.ensures.is c.number-p.ensures.is c.if-given-lt2.false)
    c.second_row.ensures

pub returns-in-Where : goal.returns-in-Where
returns-in-Where c =
    let given = c.args.given.now in
    puts_as
    (placed _ _ given _ _ _ c.in-Where.is (behind given 2) c.number-m.ensures.is c.number-p.ensures.is c.if-given-lt2.false)
    c.where_row.ensures
