-- `bound::fronts` meets its contract: the slots below s have their rows.
use Rattle.bound.proofs.Fronting.{fronts-more}
use Rattle.bound.proofs.fronts.Goals as goal

pub loop-s-preserved : goal.loop-s-preserved
loop-s-preserved c = fronts-more _ _ _ c.loop-s.invariant _ c.requires.few c.loop-s-test.true _ c.front_row.ensures
