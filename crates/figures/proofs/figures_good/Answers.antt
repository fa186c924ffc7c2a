-- `figures::figures_good` meets its contract, one law for each answer.
use Rattle.figures.proofs.Ways.{k_too_large, too_short, all_told}
use Rattle.plan.proofs.Ways.{known_good}
use Rattle.figures.proofs.figures_good.Goals as goal

pub returns-then-k-gt-CUTS : goal.returns-then-k-gt-CUTS
returns-then-k-gt-CUTS c = k_too_large _ _ _ (known_good _ c.args.good.is_good) _ c.if-k-gt-CUTS.true c.refuse.ensures

pub returns-then-out-k : goal.returns-then-out-k
returns-then-out-k c =
    too_short _ _ _ (known_good _ c.args.good.is_good) c.if-k-gt-CUTS.false _ c.if-out-k.true c.refuse-then-out-k.ensures

pub returns : goal.returns
returns c =
    all_told _ _ c.args.out.now (known_good _ c.args.good.is_good) c.if-k-gt-CUTS.false _ c.if-out-k.false c.fill.ensures

pub fill-requires : goal.fill-requires
fill-requires c =
    record { good = known_good _ c.args.good.is_good; few = c.if-k-gt-CUTS.false; enough = c.if-out-k.false }
