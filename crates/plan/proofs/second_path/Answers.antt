-- `plan::second_path` meets its contract: a bad row shows nothing. Assumes nothing.
use Rattle.std.proofs.Common.{sym}
use Rattle.plan.proofs.Ways as law
use Rattle.plan.proofs.second_path.Goals as goal

pub second_path_part-requires : goal.second_path_part-requires
second_path_part-requires c = (law.good-row _ _ (sym c.in-Ok.ensures)).form

pub returns-in-Ok : goal.returns-in-Ok
returns-in-Ok c = law.part-shown _ _ _ _ _ (sym c.in-Ok.ensures) c.second_path_part.ensures

pub returns-in-Err : goal.returns-in-Err
returns-in-Err c = law.part_hidden _ _ _ _ _ (sym c.in-Err.ensures)
