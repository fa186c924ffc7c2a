-- `bound::gather` meets its contract: from index k on the sets are put.
use Rattle.std.proofs.Common.{arith}
use Rattle.bound.proofs.Gathering.{gathering_done}
use Rattle.bound.proofs.gather.Goals as goal

pub returns : goal.returns
returns c = gathering_done _ _ _ _ _ c.loop-k.invariant c.loop-k-test.false c.requires.few (omega (arith, c.requires.long, c.loop-k.auto.sets))
