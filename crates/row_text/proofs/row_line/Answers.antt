-- `row_text::row_line` meets its contract: what the loop has left of the line is still to be laid from `next` on.
use Rattle.std.proofs.Common.{refl}
use Rattle.text.proofs.Laid.{left-first, left_is, left-told, left-more, left-done}
use Rattle.row_text.proofs.Lines.{line-more, line-done, line-told}
use Rattle.row_text.proofs.row_line.Goals as goal

pub loop-i-init : goal.loop-i-init
loop-i-init c = left-first _ _ _

pub put_number-next-requires : goal.put_number-next-requires
put_number-next-requires c =
    left-told _ _ (line-told _ c.requires) (left_is (line-more _ _ _ _ c.loop-i-test.true refl c.mark_after.ensures) c.loop-i.invariant)

pub loop-i-preserved : goal.loop-i-preserved
loop-i-preserved c =
    left-more (left_is (line-more _ _ _ _ c.loop-i-test.true refl c.mark_after.ensures) c.loop-i.invariant) c.put_number-next.ensures

pub returns : goal.returns
returns c = left-done (left_is (line-done _ _ c.loop-i-test.false) c.loop-i.invariant)
