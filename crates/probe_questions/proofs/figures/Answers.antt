-- `probe_questions::figures` meets its contract: the buffer is filled, and the figures are written to its front.
use Rattle.std.proofs.Common.{refl, ◌∙◌}
use Rattle.scope.specs.Questions.{figures_of}
use Rattle.probe_questions.proofs.Lines.{puts_as}
use Rattle.probe_questions.proofs.Lent.{all-fits, told-result, figured}
use Rattle.probe_questions.proofs.figures.Goals as goal

pub returns : goal.returns
returns c =
    let lent = c.in-Some.ensures in
    let room = c.number-room.ensures.is in
    puts_as
    (told-result _ _ _ lent.1 _ (figures_of _ _) _ _ c.figures-answer.ensures _ c.count.ensures
    ∙ figured c.args.given.now _ _ c.number-k.ensures.is room
    ∙ all-fits _ _ _ _ _ _ _ refl room c.if-given-lt2.false lent.0)
    c.told.ensures
