-- `probe_questions::figure` meets its contract: the line is told of the figure, with nothing lent.
use mathlib.Core.Path.{refl, ◌∙◌, ap, ap₂}
use mathlib.Core.List.{[]}
use native.Mathlib.Omega.{arith}
use Rattle.scope.specs.Outcome.{Outcome}
use Rattle.probe_lines.specs.Answers.{told}
use Rattle.probe_questions.specs.Asked.{figure_line}
use Rattle.probe_questions.proofs.Lines.{puts_as}
use Rattle.probe_questions.proofs.Lent.{enough, behind}
use Rattle.probe_questions.proofs.figure.Goals as goal

pub returns : goal.returns
returns c =
    puts_as
    (ap (λ (o : Outcome). told o 0 []) c.figure-answer.ensures
    ∙ ap₂ figure_line (behind c.args.given.now 1) c.number-k.ensures.is
    ∙ enough _ _ _ _ refl (grind arith))
    c.told.ensures
