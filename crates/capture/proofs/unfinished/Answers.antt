-- `capture::unfinished` meets its contract: `spoil` makes of what is kept what is kept with an unfinished triple. Assumes nothing.
use Rattle.capture.proofs.Keeping.{ends}
use Rattle.capture.proofs.unfinished.Goals as goal

pub returns : goal.returns
returns c = rw c.spoil.ensures (ends c.args.kept)
