-- `bound::front_row` meets its contract.
use Rattle.bound.proofs.Fronting.{front-row}
use Rattle.bound.proofs.front_row.Goals as goal

pub returns : goal.returns
returns c = front-row _ _ _ _ c.bucket.ensures c.run_down.ensures
