-- `probe_questions::read` meets its contract: the buffer is filled, and the numbers are written to its front.
use Rattle.std.proofs.Common.{refl, ◌∙◌}
use Rattle.scope.specs.Questions.{read_file}
use Rattle.probe_questions.proofs.Lines.{puts_as}
use Rattle.probe_questions.proofs.Lent.{enough, told-result}
use Rattle.probe_questions.proofs.read.Goals as goal

pub returns : goal.returns
returns c =
    let lent = c.in-Some.ensures in
    puts_as
    (told-result _ _ _ lent.1 _ (read_file _) _ _ c.read_file-answer.ensures _ c.count.ensures ∙ enough _ _ _ _ refl lent.0)
    c.told.ensures
