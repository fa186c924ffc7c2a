-- `figures::figures` meets its contract: refusals 1 to 10 and 14 to 19, or what `figures_good` answers.
use Rattle.figures.proofs.Ways.{bad-row}
use Rattle.scope.proofs.Outcomes.{passed}
use Rattle.figures.specs.Figures.{FiguresAll}
use Rattle.figures.proofs.figures.Goals as goal

pub returns-in_err-good : goal.returns-in_err-good
returns-in_err-good c =
    passed (FiguresAll _ _ _ _) _ _ c.from_residual.ensures.1
    (bad-row c.args.row.now c.args.k c.args.out.now _ c.in_err-good.ensures)
