use Rattle.std.proofs.Common.{arith}
use Rattle.rows.proofs.Parts.{link-count}
use Rattle.cables.proofs.Bytes.{finding_first, finding_done}
use Rattle.cables.proofs.other_ways.Goals as goal

pub loop-e-init : goal.loop-e-init
loop-e-init c = finding_first _

pub returns : goal.returns
returns c =
    finding_done _ c.loop-e.e _ (omega (arith, link-count c.args.row.now, c.links-e-end.ensures.is, c.loop-e-test.false))
    (omega (arith, c.links-e-end.ensures.is, c.requires.links, c.loop-e.auto.e-end)) c.loop-e.invariant
