-- `explanations::explain_row` meets its contract: what is kept of the capture is right.
use Rattle.std.proofs.Common.{refl}
use Rattle.plan.proofs.Ways.{known_good}
use Rattle.explanations.proofs.Asking.{small}
use Rattle.explanations.proofs.explain_row.Goals as goal

pub keep-kept-requires : goal.keep-kept-requires
keep-kept-requires c = (small _ (known_good _ c.args.good.is_good), refl)

pub explain_good-requires : goal.explain_good-requires
explain_good-requires c = c.keep-kept.ensures.size

pub returns : goal.returns
returns c = c.explain_good.ensures _ c.keep-kept.ensures
