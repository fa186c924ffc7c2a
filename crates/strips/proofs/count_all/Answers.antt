-- `strips::count_all` meets its contract: the messages below message m are counted. Assumes nothing.
use Rattle.strips.proofs.Paths.{counting_all_none, may-count, counting_all_more, counting_all_done}
use Rattle.strips.proofs.count_all.Goals as goal

pub loop-m-init : goal.loop-m-init
loop-m-init c =
    counting_all_none _ c.requires.good _ c.messages-n.ensures.is _ _ _
    c.message_index-at.ensures c.requires

pub count_message-at-requires : goal.count_message-at-requires
count_message-at-requires c =
    may-count _ c.requires.good _
    c.messages-n.ensures.is _ _ _ _ c.loop-m.invariant
    c.loop-m-test.true

pub loop-m-preserved : goal.loop-m-preserved
loop-m-preserved c =
    counting_all_more _ c.requires.good _ c.messages-n.ensures.is _ _ _ _ c.loop-m.invariant
    c.loop-m-test.true _ _ _
    c.count_message-at.ensures

pub returns : goal.returns
returns c =
    counting_all_done _ c.requires.good _
    c.messages-n.ensures.is _ _ _ _ c.loop-m.invariant c.loop-m-test.false
