-- `probe_questions::verdict` meets its contract: the list is filled, and the line is told of the ruling.
use Rattle.std.proofs.Common.{refl}
use Rattle.probe_questions.proofs.Lines.{lays}
use Rattle.probe_questions.proofs.Lent.{behind, ruled, ruled-of, asks}
use Rattle.probe_questions.proofs.verdict.Goals as goal

pub returns : goal.returns
returns c =
    let lent = c.in-Some.ensures in
    let asked = c.verdict-ruling in
    lays
    (asks _ _ _ _ _ c.args.given.now _ refl c.number-room.ensures.is _ c.if-given-lt3.false lent.0
    (ruled-of c.args.given.now _ _ _ c.number-k.ensures.is c.number-l.ensures.is c.number-room.ensures.is _ _
    (behind c.args.given.now 3)
    (ruled _ _ lent.1 asked.new.list _ _ _ asked.result asked.ensures)))
    c.told_found.ensures
