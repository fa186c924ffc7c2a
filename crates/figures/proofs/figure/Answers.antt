-- `figures::figure` meets its contract: the last of all figures.
use Rattle.std.proofs.Common.{replicate, refl, sym}
use Rattle.scope.proofs.Outcomes.{passed_on}
use Rattle.figures.proofs.Ways.{one_refused, one_given}
use Rattle.figures.proofs.figure.Goals as goal

pub returns : goal.returns
returns c =
    one_given c.args.row.now c.args.k (replicate 4 0) _ _ _ refl (sym c.in_ok-figures.ensures.answer) c.in_ok-figures.ensures.buffer
    c.number.ensures.is

pub returns-in_err-figures : goal.returns-in_err-figures
returns-in_err-figures c =
    passed_on _ _ _ c.from_residual.ensures.1
    (sym (one_refused c.args.row.now c.args.k (replicate 4 0) _ refl (sym c.in_err-figures.ensures.answer)))
