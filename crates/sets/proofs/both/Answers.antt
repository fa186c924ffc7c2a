-- `sets::both` meets its contract: digit by digit. Assumes nothing.
use Rattle.sets.proofs.Sets.{has_both}
use Rattle.sets.proofs.both.Goals as goal

pub returns : goal.returns
returns c = has_both c.args.a c.args.b
