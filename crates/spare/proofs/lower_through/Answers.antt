use Rattle.std.proofs.Common.{arith}
use Rattle.spare.proofs.Loops as law
use Rattle.spare.proofs.lower_through.Goals as goal

pub loop-j-init : goal.loop-j-init
loop-j-init c = (law.lower_all _ _ _ _ c.message_index-at.ensures.is, omega arith, omega arith)

pub loop-j-preserved : goal.loop-j-preserved
loop-j-preserved c = (
  law.lower_on _ _ _ _ _ _ _ _ _ c.loop-j-test.true c.requires c.message_through-sum.ensures.is c.after_message-at.ensures.is
      c.loop-j.invariant.0,
  omega arith,
  omega arith,
)

pub returns : goal.returns
returns c = record {
  is = law.lower_done _ _ _ _ _ _ _ c.loop-j-test.false c.loop-j.invariant.0;
  small = omega arith;
}
