-- `plan::second_index` meets its contract: of a bad row nothing is shown. Assumes nothing.
use Rattle.std.proofs.Common.{sym}
use Rattle.plan.proofs.Ways as law
use Rattle.plan.proofs.second_index.Goals as goal

pub returns-in-Err : goal.returns-in-Err
returns-in-Err c = law.index_hidden _ _ _ _ (sym c.in-Err.ensures)
