-- `strips::count_message` meets its contract: whoever counts the places left has counted all. Assumes nothing.
use Rattle.strips.proofs.Paths.{counting_may, counting_more, counting_done}
use Rattle.strips.proofs.count_message.Goals as goal

pub count-requires : goal.count-requires
count-requires c =
    counting_may _ _ _ _ _ c.requires _ _ _ _ _
    c.loop-k.invariant c.loop-k-test.true _ c.place_at-here.ensures

pub loop-k-preserved : goal.loop-k-preserved
loop-k-preserved c =
    counting_more _ _ _ _ _
    c.requires _ _ _ _ _
    c.loop-k.invariant
    c.loop-k-test.true _
    c.place_at-here.ensures _ _
    c.count.ensures c.mark_path.ensures

pub returns : goal.returns
returns c =
    counting_done _ _ _ _ _ c.requires _ _ _ _ _ c.loop-k.invariant c.loop-k-test.false
    c.place_count-n.ensures.small
