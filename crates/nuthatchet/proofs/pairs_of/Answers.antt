-- `nuthatchet::pairs_of` meets its contract, case by case. Assumes nothing.
use Rattle.scope.proofs.Outcomes.{passed_on}
use Rattle.nuthatchet.proofs.pairs_of.Goals as goal

pub returns-in-None : goal.returns-in-None
returns-in-None c = rw (c.in_ok-found.was, c.in-None.is)

pub returns-in-Some : goal.returns-in-Some
returns-in-Some c = rw (c.in_ok-found.was, c.in-Some.is)

pub returns-in_err-found : goal.returns-in_err-found
returns-in_err-found c = passed_on _ _ _ c.from_residual.ensures.1 (rw c.in_err-found.was)
