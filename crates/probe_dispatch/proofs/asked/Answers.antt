-- `probe_dispatch::asked` meets its contract: one line for each question.
use mathlib.Core.Path.{refl}
use lib.ListN.{length}
use Rattle.probe_dispatch.proofs.Laws.{says_is}
use Rattle.probe_dispatch.proofs.asked.Goals as goal

pub returns-in-Read : goal.returns-in-Read
returns-in-Read c =
    let a = c.args in
    says_is _ _ a.line.now a.given.now (length a.lent.now) (length a.file.now) c.in-Read.is
    refl c.read.ensures

pub returns-in-Write : goal.returns-in-Write
returns-in-Write c =
    let a = c.args in
    says_is _ _ a.line.now a.given.now (length a.lent.now) (length a.file.now) c.in-Write.is
    refl c.write.ensures

pub returns-in-Replay : goal.returns-in-Replay
returns-in-Replay c =
    let a = c.args in
    says_is _ _ a.line.now a.given.now (length a.lent.now) (length a.file.now) c.in-Replay.is
    refl c.replay.ensures

pub returns-in-Verdict : goal.returns-in-Verdict
returns-in-Verdict c =
    let a = c.args in
    says_is _ _ a.line.now a.given.now (length a.lent.now) (length a.file.now) c.in-Verdict.is
    c.verdict.ensures.says c.verdict.ensures.puts

pub returns-in-Explain : goal.returns-in-Explain
returns-in-Explain c =
    let a = c.args in
    says_is _ _ a.line.now a.given.now (length a.lent.now) (length a.file.now) c.in-Explain.is
    c.explain.ensures.says c.explain.ensures.puts

pub returns-in-Figures : goal.returns-in-Figures
returns-in-Figures c =
    let a = c.args in
    says_is _ _ a.line.now a.given.now (length a.lent.now) (length a.file.now) c.in-Figures.is
    refl c.figures.ensures

pub returns-in-Figure : goal.returns-in-Figure
returns-in-Figure c =
    let a = c.args in
    says_is _ _ a.line.now a.given.now (length a.lent.now) (length a.file.now) c.in-Figure.is
    refl c.figure.ensures

pub returns-in-Slack : goal.returns-in-Slack
returns-in-Slack c =
    let a = c.args in
    says_is _ _ a.line.now a.given.now (length a.lent.now) (length a.file.now) c.in-Slack.is
    refl c.of_place.ensures

pub returns-in-Second : goal.returns-in-Second
returns-in-Second c =
    let a = c.args in
    says_is _ _ a.line.now a.given.now (length a.lent.now) (length a.file.now) c.in-Second.is
    refl c.of_place-in-Second.ensures

pub returns-in-Where : goal.returns-in-Where
returns-in-Where c =
    let a = c.args in
    says_is _ _ a.line.now a.given.now (length a.lent.now) (length a.file.now) c.in-Where.is
    refl c.of_place-in-Where.ensures

pub returns-in-Spoil : goal.returns-in-Spoil
returns-in-Spoil c =
    let a = c.args in
    says_is _ _ a.line.now a.given.now (length a.lent.now) (length a.file.now) c.in-Spoil.is
    refl c.spoil.ensures

pub returns-in-Unknown : goal.returns-in-Unknown
returns-in-Unknown c =
    let a = c.args in
    says_is _ _ a.line.now a.given.now (length a.lent.now) (length a.file.now) c.in-Unknown.is
    refl c.unknown.ensures
