-- A read that failed has failed, and no other.
use Rattle.std.proofs.Common.{refl, ap, Some}
use Rattle.program_io.specs.More.{says}
use Rattle.program_io.proofs.said.Goals as goal

pub returns-in-Ok : goal.returns-in-Ok
unfolding says
returns-in-Ok c = rw c.in-Ok.is (ap Some c.min.ensures)

pub returns-in-Err : goal.returns-in-Err
unfolding says
returns-in-Err c = rw c.in-Err.is refl
