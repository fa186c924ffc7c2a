-- `bound::weigh_all` meets its contract: no link has a number for touches, and each its own for strips.
use Rattle.std.proofs.Common.{arith, refl}
use Rattle.bound.proofs.Weights.{no_links}
use Rattle.bound.proofs.Planes.{may_add, weighs_all}
use Rattle.bound.proofs.Others.{weighs_alone, weighs_strips}
use Rattle.bound.proofs.weigh_all.Goals as goal

pub weigh_cables-requires : goal.weigh_cables-requires
weigh_cables-requires c = (
  record { entries = c.requires.entries; few = c.requires.few; long = c.split_at_mut-touches.ensures.front_len },
  no_links _ refl,
  c.requires.ways,
)

pub weigh_both-requires : goal.weigh_both-requires
weigh_both-requires c =
    may_add _ _ _ _ _ _ _ c.requires.few c.weigh_cables.ensures c.weigh_cables-2.ensures
    (omega (arith, c.requires.long, c.split_at_mut-touches.ensures.back_len, c.split_at_mut-strips.ensures.back_len))

pub returns : goal.returns
returns c =
    let ways = c.requires.ways in
    weighs_all _ _ _ _ _ _ _ _ c.requires.few (weighs_alone c.args.table.now _ _ c.args.slots _ ways c.weigh_cables.ensures refl)
    (weighs_strips c.args.fragile.now _ _ c.args.slots _ ways c.weigh_cables-2.ensures _ c.on_links.ensures) c.weigh_both.ensures
