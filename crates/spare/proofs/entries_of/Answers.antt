use Rattle.std.proofs.Common.{arith, rules}
use Rattle.std.proofs.lemmas.Grind.{common_steps}
use Rattle.spare.proofs.Loops as law
use Rattle.spare.proofs.entries_of.Goals as goal

pub loop-k-preserved : goal.loop-k-preserved
loop-k-preserved c = (
  law.entries_of_on _ c.args.e _ _ _ c.loop-k-test.true c.place_at-here.result c.place_at-here.ensures c.from-sum.result _ _ (search rules)
      c.loop-k.invariant.0,
  omega (arith, c.place_at-here.ensures.near),
  grind (arith, common_steps),
)

pub returns : goal.returns
returns c = record {
  is = law.entries_of_none _ _ _ _ _ _ _ c.loop-k-test.false c.loop-k.invariant.0;
  small = omega arith;
}
