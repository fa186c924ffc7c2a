-- `sets::either` meets its contract: digit by digit. Assumes nothing.
use Rattle.sets.proofs.Sets.{has_either}
use Rattle.sets.proofs.either.Goals as goal

pub returns : goal.returns
returns c = has_either c.args.a c.args.b
