-- `sheet_lines::sum_lines` meets its contract: what the loop has left are the lines from k on.
use Rattle.text.proofs.Laid.{left-first, left_is, left-told, left-more, left-done}
use Rattle.sheet_lines.specs.Tally.{sums}
use Rattle.sheet_lines.proofs.Lines.{tally_more, tally_done}
use Rattle.sheet_lines.proofs.sum_lines.Goals as goal

pub loop-k-init : goal.loop-k-init
loop-k-init c = left-first _ _ _

pub sums_line-next-requires : goal.sums_line-next-requires
sums_line-next-requires c = left-told _ _ c.requires (left_is (tally_more c.args.t sums c.loop-k.k c.loop-k-test.true) c.loop-k.invariant)

pub loop-k-preserved : goal.loop-k-preserved
loop-k-preserved c =
    left-more (left_is (tally_more c.args.t sums c.loop-k.k c.loop-k-test.true) c.loop-k.invariant) c.sums_line-next.ensures

pub returns : goal.returns
returns c = left-done (left_is (tally_done c.args.t sums c.loop-k.k c.loop-k-test.false) c.loop-k.invariant)
