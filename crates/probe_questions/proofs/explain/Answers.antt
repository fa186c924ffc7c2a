-- `probe_questions::explain` meets its contract: the list is filled, and the line is told of the explanation.
use Rattle.std.proofs.Common.{ℕ, ◌+◌, ap}
use Rattle.probe_questions.proofs.Lines.{lays}
use Rattle.probe_questions.proofs.Lent.{explained, explained-of, asks}
use Rattle.probe_questions.proofs.explain.Goals as goal

pub returns : goal.returns
returns c =
    let lent = c.in-Some.ensures in
    let asked = c.explain-explanation in
    let split = ap (λ (k : ℕ). k + 3) c.number-split.ensures.is in
    lays
    (asks _ _ _ _ _ c.args.given.now _ split c.number-room.ensures.is _ c.if-given-split.false lent.0
    (explained-of c.args.given.now _ _ _ c.number-k.ensures.is c.number-room.ensures.is c.number-split.ensures.is _
    (explained _ _ lent.1 asked.new.list _ _ _ asked.result asked.ensures)))
    c.told_found.ensures
