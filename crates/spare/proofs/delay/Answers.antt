use Rattle.std.proofs.Common.{arith}
use Rattle.spare.proofs.Loops as law
use Rattle.spare.proofs.delay.Goals as goal

pub loop-k-preserved : goal.loop-k-preserved
loop-k-preserved c = (
  law.delay_on _ _ _ _ _ _ _ _ _ _ c.loop-k-test.true c.number-e.ensures.is c.entries.ensures.is c.lower_through.ensures.is
      c.loop-k.invariant.0,
  omega (arith, c.type_inv.row 3),
)

pub returns : goal.returns
returns c = record {
  is = law.delay-none _ _ _ _ _ _ _ c.loop-k-test.false c.loop-k.invariant.0;
  small = omega arith;
}
