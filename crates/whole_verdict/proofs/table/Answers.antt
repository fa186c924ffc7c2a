-- `whole_verdict::table` meets its contract: the loop has laid the lines under each number below k.
use Rattle.std.proofs.Common.{arith}
use Rattle.verdict_text.proofs.Composing.{laid-first, laid_more, laid_done, laid-small}
use Rattle.whole_verdict.proofs.table.Goals as goal

pub loop-k-init : goal.loop-k-init
loop-k-init c = laid-first _ _ _

pub lines_under-next-requires : goal.lines_under-next-requires
lines_under-next-requires c = (omega arith, laid-small _ _ (omega arith) c.loop-k.invariant)

pub loop-k-preserved : goal.loop-k-preserved
loop-k-preserved c = laid_more _ _ c.loop-k-test.true c.loop-k.invariant c.lines_under-next.ensures

pub returns : goal.returns
returns c = laid_done _ _ c.loop-k.auto.k-end c.loop-k-test.false c.loop-k.invariant
