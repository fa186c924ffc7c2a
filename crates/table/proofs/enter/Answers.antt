use Rattle.table.proofs.Laws.{entering_next, entering_done}
use Rattle.table.proofs.enter.Goals as goal

pub loop-k-preserved : goal.loop-k-preserved
loop-k-preserved c =
    entering_next _ _ _ _ _ _ _ _ _ _ c.loop-k.invariant c.loop-k-test.true c.requires.2 c.place_at-here.ensures c.mark.ensures

pub returns : goal.returns
returns c = entering_done _ _ _ _ _ _ _ _ c.loop-k.invariant c.loop-k-test.false c.place_count-n.ensures.small
