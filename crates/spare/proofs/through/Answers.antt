use Rattle.std.proofs.Common.{sym, ◌∙◌, arith}
use Rattle.spare.proofs.Loops as law
use Rattle.spare.proofs.through.Goals as goal

pub returns-then-has : goal.returns-then-has
returns-then-has c =
    sym (law.through_here _ _ _ _ _ c.loop-k-test.true _ c.place_at-here.ensures (sym c.has.ensures ∙ c.if-has.true)) ∙
    c.loop-k.invariant.0

pub loop-k-preserved : goal.loop-k-preserved
loop-k-preserved c = (
  law.through_on _ _ _ _ _ c.loop-k-test.true _ c.place_at-here.ensures (sym c.has.ensures ∙ c.if-has.false) ∙ c.loop-k.invariant.0,
  omega (arith, c.place_at-here.ensures.near),
)

pub returns : goal.returns
returns c = sym (law.through-none _ _ _ _ _ c.loop-k-test.false) ∙ c.loop-k.invariant.0
