-- `sheet_lines::no_plan` meets its contract: every sum is zero.
use Rattle.sheet_lines.proofs.Adding.{none_tallied}
use Rattle.sheet_lines.proofs.no_plan.Goals as goal

pub returns : goal.returns
returns c = none_tallied
