-- `verdicts::ask` meets its contract: every list leaves 0 arrivals, and the search is asked for every other l.
use Rattle.verdicts.proofs.Asking.{asks_nought, asks}
use Rattle.verdicts.proofs.ask.Goals as goal

pub returns-then-l-eq0 : goal.returns-then-l-eq0
returns-then-l-eq0 c = asks_nought _ _ _ _ _ c.requires c.if-l-eq0.true

pub first_list-requires : goal.first_list-requires
first_list-requires c = asks _ _ _ _ _ c.requires _ c.need.ensures
