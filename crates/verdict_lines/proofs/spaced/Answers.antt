-- `verdict_lines::spaced` meets its contract: what the loop has left are the numbers from its index on.
use Rattle.text.proofs.Laid.{left-first, left_is, left-told, left-more, left-done}
use Rattle.verdict_lines.proofs.Marks.{spaced-more, spaced-done}
use Rattle.verdict_lines.proofs.spaced.Goals as goal

pub loop-n-init : goal.loop-n-init
loop-n-init c = left-first _ _ _

pub put_byte-a-requires : goal.put_byte-a-requires
put_byte-a-requires c = left-told _ _ c.requires (left_is (spaced-more _ _ c.loop-n-test.true) c.loop-n.invariant)

pub put_decimal-next-requires : goal.put_decimal-next-requires
put_decimal-next-requires c =
    left-told _ _ c.requires (left-more (left_is (spaced-more _ _ c.loop-n-test.true) c.loop-n.invariant) c.put_byte-a.ensures)

pub loop-n-preserved : goal.loop-n-preserved
loop-n-preserved c =
    left-more (left-more (left_is (spaced-more _ _ c.loop-n-test.true) c.loop-n.invariant) c.put_byte-a.ensures) c.put_decimal-next.ensures

pub returns : goal.returns
returns c = left-done (left_is (spaced-done _ _ c.loop-n-test.false) c.loop-n.invariant)
