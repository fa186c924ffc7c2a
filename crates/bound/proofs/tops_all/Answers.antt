-- `bound::tops_all` meets its contract: the fronts stand after the tops, which stay.
use Rattle.std.proofs.Common.{◌≡◌, ◌-◌, ◌*◌, length, arith}
use Rattle.scope.specs.Limits.{most_slots, fronts_size}
use Rattle.bound.proofs.Fronting.{tops_and_fronts}
use Rattle.bound.proofs.tops_all.Goals as goal

pub returns : goal.returns
returns c =
    let e : length c.tops_each.new.most - 3 * most_slots ≡ fronts_size = omega (arith, c.tops_each.ensures.long) in
    rw e (tops_and_fronts _ _ _ _ c.requires.few c.tops_each.ensures c.fronts.ensures)
