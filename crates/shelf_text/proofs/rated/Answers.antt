-- `shelf_text::rated` meets its contract: the figures stand at the front of what was lent for them.
use lib.ListN.{replicate}
use Rattle.figures.proofs.Ways.{good-told}
use Rattle.shelf_text.proofs.Lines.{highest_few, fits, may_tell_lem, may_add, rates}
use Rattle.plan.proofs.Ways.{known_good}
use Rattle.shelf_text.proofs.rated.Goals as goal

pub figures_line-next-requires : goal.figures_line-next-requires
figures_line-next-requires c =
    may_tell_lem _ _ _ _ (known_good _ c.args.good.is_good) c.requires _ c.highest-k.ensures _ (good-told _ _ (replicate 4 0) _ _ (known_good _ c.args.good.is_good)
    (highest_few _ _ c.highest-k.ensures) (fits _ _ c.highest-k.ensures) c.figures_good.ensures)

pub add-tally-requires : goal.add-tally-requires
add-tally-requires c =
    may_add _ _ _ _ (known_good _ c.args.good.is_good) c.requires _ c.highest-k.ensures _ (good-told _ _ (replicate 4 0) _ _ (known_good _ c.args.good.is_good)
    (highest_few _ _ c.highest-k.ensures) (fits _ _ c.highest-k.ensures) c.figures_good.ensures) _ c.messages.ensures.is

pub returns : goal.returns
returns c =
    rates _ _ _ _ (known_good _ c.args.good.is_good) c.requires _ c.highest-k.ensures _ (good-told _ _ (replicate 4 0) _ _ (known_good _ c.args.good.is_good)
    (highest_few _ _ c.highest-k.ensures) (fits _ _ c.highest-k.ensures) c.figures_good.ensures) _ _ _ _ c.messages.ensures.is c.figures_line-next.ensures c.add-tally.ensures
