-- `risks::at_risk` meets its contract: each is counted in a set of those away.
use Rattle.risks.proofs.Risks.{at_risk_is}
use Rattle.risks.proofs.at_risk.Goals as goal

pub returns : goal.returns
returns c =
    at_risk_is _ _ _ _ _ _ _ c.both.ensures
    c.both-2.ensures c.both-3.ensures c.both-4.ensures
    c.count.ensures.0 c.count-2.ensures.0 c.count-3.ensures.0
