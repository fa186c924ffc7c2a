-- Nothing where the file cannot be opened or read, else what was read.
use Rattle.std.proofs.Common.{rules, arith}
use Rattle.program_io.proofs.Reading.{came}
use Rattle.program_io.proofs.read_named.Goals as goal

pub returns-in-Ok : goal.returns-in-Ok
returns-in-Ok c = came _ _ _ (omega (arith, c.in-Ok.ensures))

pub returns-in-Err : goal.returns-in-Err
returns-in-Err c = came _ _ _ (search rules)
