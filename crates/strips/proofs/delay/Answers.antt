-- `strips::delay` meets its contract: what is summed and what is left are the whole. Assumes nothing.
use Rattle.strips.proofs.Costs.{delaying_more, delaying_done}
use Rattle.strips.proofs.delay.Goals as goal

pub loop-k-preserved : goal.loop-k-preserved
loop-k-preserved c =
    delaying_more _ _ _ _ _ _ c.loop-k.invariant _ _ c.loop-k-test.true c.number.ensures.is
    c.number-in-loop-k.ensures.is c.number-in-loop-k.ensures.small

pub returns : goal.returns
returns c = delaying_done _ _ _ _ _ _ c.loop-k.invariant c.loop-k-test.false
