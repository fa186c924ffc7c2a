-- `nuthatchet::one_more` meets its contract, case by case. Assumes nothing.
use Rattle.std.proofs.Common.{Ok, ap, ◌∙◌, arith}
use Rattle.scope.proofs.Outcomes.{passed_on}
use Rattle.nuthatchet.proofs.one_more.Goals as goal

pub overflow_add-result : goal.overflow_add-result
overflow_add-result c = omega (arith, c.requires _ (c.in_ok-found.was ∙ ap Ok c.in-Some.is))

pub returns-in-None : goal.returns-in-None
returns-in-None c = rw (c.in_ok-found.was, c.in-None.is)

pub returns-in-Some : goal.returns-in-Some
returns-in-Some c = rw (c.in_ok-found.was, c.in-Some.is)

pub returns-in_err-found : goal.returns-in_err-found
returns-in_err-found c = passed_on _ _ _ c.from_residual.ensures.1 (rw c.in_err-found.was)
