-- A count only of a read that did not fail.
use Rattle.program_io.proofs.Reading.{reads}
use Rattle.program_io.proofs.read_input.Goals as goal

pub returns : goal.returns
returns c = reads _ _ _ c.said.ensures
