use Rattle.cuts.proofs.Downs.{told_none, told_more}
use Rattle.cuts.proofs.down_in.Goals as goal

pub loop-j-init : goal.loop-j-init
loop-j-init c = told_none _ _ _

pub loop-j-preserved : goal.loop-j-preserved
loop-j-preserved c =
    told_more _ _ _ _ _ _ _ _ c.loop-j.invariant c.pair_at.ensures.slot c.pair_at.ensures.link c.put_pair.ensures
