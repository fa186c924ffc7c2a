-- `listing::event_lines` meets its contract: what the loop has left are the lines from event j on.
use Rattle.text.proofs.Laid.{left-first, left_is, left-told, left-more, left-done}
use Rattle.listing.proofs.Lines.{lines_more, lines_done, lines_first}
use Rattle.listing.proofs.event_lines.Goals as goal

pub loop-j-init : goal.loop-j-init
loop-j-init c = left_is (lines_first _ _ _) (left-first _ _ _)

pub event_line-next-requires : goal.event_line-next-requires
event_line-next-requires c =
    left-told _ _ c.requires.2
    (left_is (lines_more _ _ _ _ _ _ c.loop-j-test.true c.number-kind.ensures.is c.number-value.ensures.is) c.loop-j.invariant)

pub loop-j-preserved : goal.loop-j-preserved
loop-j-preserved c =
    left-more
    (left_is (lines_more _ _ _ _ _ _ c.loop-j-test.true c.number-kind.ensures.is c.number-value.ensures.is) c.loop-j.invariant)
    c.event_line-next.ensures

pub returns : goal.returns
returns c = left-done (left_is (lines_done _ _ _ _ c.loop-j-test.false) c.loop-j.invariant)
