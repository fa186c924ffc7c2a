-- `capture::none` meets its contract. Assumes nothing.
use Rattle.capture.proofs.Keeping.{begins}
use Rattle.capture.proofs.none.Goals as goal

pub returns : goal.returns
returns c = begins
