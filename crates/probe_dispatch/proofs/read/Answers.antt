-- `probe_dispatch::read` meets its contract: a number and bytes stand there, or it is no question.
use Rattle.std.proofs.Common.{length}
use Rattle.probe_questions.proofs.Lines.{puts_as}
use Rattle.probe_dispatch.proofs.Laws.{read-unread, read-bad, read-good}
use Rattle.probe_dispatch.proofs.read.Goals as goal

pub returns-in_default : goal.returns-in_default
returns-in_default c = let a = c.args in puts_as (read-unread (length a.lent.now) a.line.now (length a.file.now) c.in_default.ensures) c.unknown.ensures

pub returns-in-Ok : goal.returns-in-Ok
returns-in-Ok c =
    let a = c.args in
    let found = c.in-Some.ensures in
    let bytes = c.bytes in
    puts_as
    (read-good (length a.lent.now) a.line.now _ found.1 found.0 _ c.last_word-word.ensures
    a.file.now bytes.new.into bytes.result bytes.ensures _ c.in-Ok.is)
    c.read.ensures

pub returns-in-Err : goal.returns-in-Err
returns-in-Err c =
    let a = c.args in
    let found = c.in-Some.ensures in
    let bytes = c.bytes in
    puts_as
    (read-bad (length a.lent.now) a.line.now _ found.1 found.0 _ c.last_word-word.ensures
    a.file.now bytes.new.into bytes.result bytes.ensures _ c.in-Err.is)
    c.unknown-in-Err.ensures
