-- `bound::weigh_cables` meets its contract: first each link's own weight, then those of the other ways.
use Rattle.bound.proofs.Others.{may_add_others, weighs_cables}
use Rattle.bound.proofs.weigh_cables.Goals as goal

pub add_others-requires : goal.add_others-requires
add_others-requires c =
    let pre = c.requires in
    may_add_others _ _ _ _ pre.0.few pre.1 pre.2 _ c.weigh_from.ensures

pub returns : goal.returns
returns c =
    let pre = c.requires in
    weighs_cables _ _ _ _ pre.0.few pre.1 pre.2 _ c.weigh_from.ensures _ c.add_others.ensures
