-- `all_verdicts::answers_good` meets its contract, one law for each answer.
use mathlib.Core.Path.{refl}
use Rattle.all_verdicts.proofs.Ways.{k_too_large, too_short, may_fill, answered}
use Rattle.plan.proofs.Ways.{known_good}
use Rattle.all_verdicts.proofs.answers_good.Goals as goal

pub returns-then-k-gt-CUTS : goal.returns-then-k-gt-CUTS
returns-then-k-gt-CUTS c = k_too_large _ _ _ (known_good _ c.args.good.is_good) _ c.if-k-gt-CUTS.true c.refuse.ensures

pub returns-then-out-needed : goal.returns-then-out-needed
returns-then-out-needed c =
    too_short _ _ _ (known_good _ c.args.good.is_good) c.if-k-gt-CUTS.false _ _
    c.messages.ensures.is refl _ c.if-out-needed.true c.refuse-then-out-needed.ensures

pub fill-requires : goal.fill-requires
fill-requires c =
    may_fill _ _ c.args.out.now
    (known_good _ c.args.good.is_good) c.if-k-gt-CUTS.false _ _
    c.messages.ensures.is refl c.if-out-needed.false

pub returns : goal.returns
returns c =
    answered _ _ _ (known_good _ c.args.good.is_good)
    c.if-k-gt-CUTS.false _ _ c.messages.ensures.is
    refl c.if-out-needed.false _ c.fill.ensures
