-- `probe_questions::replay` meets its contract: the buffer is filled, and the events are written to its front.
use Rattle.std.proofs.Common.{ℕ, ◌+◌, ◌∙◌, ap}
use Rattle.scope.specs.Questions.{replay}
use Rattle.probe_questions.proofs.Lines.{puts_as}
use Rattle.probe_questions.proofs.Lent.{all-fits, told-numbers, replayed}
use Rattle.probe_questions.proofs.replay.Goals as goal

pub returns : goal.returns
returns c =
    let lent = c.in-Some.ensures in
    let cuts = c.number-split.ensures.is in
    let room = c.number-room.ensures.is in
    puts_as
    (told-numbers _ _ _ lent.1 _ (replay _ _) _ _ c.replay-answer.ensures _ _ c.event_numbers.ensures
    ∙ replayed c.args.given.now _ _ cuts room
    ∙ all-fits _ _ _ _ _ _ _ (ap (λ (k : ℕ). k + 2) cuts) room c.if-given-split.false lent.0)
    c.told.ensures
