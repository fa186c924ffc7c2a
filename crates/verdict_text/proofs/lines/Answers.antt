-- `verdict_text::lines` meets its contract: what the loop has left are the lines from l on.
use Rattle.text.proofs.Laid.{left-first, left_is, left-told, left-more, left-done}
use Rattle.verdict_text.proofs.Verdicts.{lines_first, lines_more, lines_done, part-told, part-puts}
use Rattle.verdict_text.proofs.lines.Goals as goal

pub loop-l-init : goal.loop-l-init
loop-l-init c = left_is (lines_first _ _ _) (left-first _ _ _)

pub line-next-requires : goal.line-next-requires
line-next-requires c =
    part-told _ _ _ _ _ c.requires.0 c.loop-l-test.true
    (left-told _ _ c.requires.1 (left_is (lines_more _ _ _ _ c.loop-l-test.true)
    c.loop-l.invariant))

pub loop-l-preserved : goal.loop-l-preserved
loop-l-preserved c =
    left-more (left_is (lines_more _ _ _ _ c.loop-l-test.true) c.loop-l.invariant)
    (part-puts _ _ _ c.line-next.ensures)

pub returns : goal.returns
returns c = left-done (left_is (lines_done _ _ _ _ c.loop-l-test.false) c.loop-l.invariant)
